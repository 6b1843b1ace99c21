use Rattle.std.proofs.Common.{◌+◌, ◌<◌, length, inl, inr, sym, subst, arith}
use Rattle.std.proofs.lemmas.List.Elements.{All-from_get_or}
use Rattle.collation_skip.specs.Rows.{Stands}
use Rattle.collation_skip.proofs.RunLemmas.{passed-follows, passed-on, stands-cursor, stands-follows, stands-grown, stands-learned}
use Rattle.collation_skip.proofs.automaton.Automaton.go.Goals as goal

pub returns-then-cursor-piece-clause-passed : goal.returns-then-cursor-piece-clause-passed
returns-then-cursor-piece-clause-passed g c =
    let piece = c.args.piece.now in
    let i = c.moves.invariant in
    passed-follows (g.W.Weights.table c.args.table.now) c.args.pattern.now c.moves.self piece c.moves.cursor c.run_to_end-cursor.result i.right (All-from_get_or (λ n. n < 256) piece 0 (λ k _. (c.type_inv.piece k).fits)) c.run_to_end-cursor.ensures.follows
    i.stands i.passed

pub returns-in_default-clause-passed : goal.returns-in_default-clause-passed
returns-in_default-clause-passed g c = λ some.
    let table = g.W.Weights.table c.args.table.now in
    let piece = c.args.piece.now in
    let i = c.moves.invariant in
    let at = c.run_to_end-cursor.result in
    let passed = passed-follows table c.args.pattern.now c.moves.self piece c.moves.cursor at i.right (All-from_get_or (λ n. n < 256) piece 0 (λ k _. (c.type_inv.piece k).fits)) c.run_to_end-cursor.ensures.follows i.stands i.passed some in
    (passed.0, stands-grown table c.args.pattern.now c.moves.self c.learn.new.self piece at.accepted_at at.accepted_row c.learn.ensures.grows passed.1)

pub moves-preserved : goal.moves-preserved
moves-preserved g c =
    let table = g.W.Weights.table c.args.table.now in
    let pattern = c.args.pattern.now in
    let piece = c.args.piece.now in
    let i = c.moves.invariant in
    let old = c.moves.self in
    let new = c.learn.new.self in
    let at = c.run_to_end-cursor.result in
    let now = c.come_to-cursor.result in
    let is = c.come_to-cursor.ensures in
    let small = All-from_get_or (λ n. n < 256) piece 0 (λ k _. (c.type_inv.piece k).fits) in
    let within = c.if-cursor-piece.false in
    let come = stands-follows table pattern old piece c.moves.cursor at i.right small c.run_to_end-cursor.ensures.follows i.stands in
    let here : Stands table pattern new piece (at.at + 1) c.in-Some.row = stands-learned table pattern old new piece at.at at.row c.in-Some.row (omega (arith, within)) c.in-Some.ensures.moves come in
    let stands = subst (λ n. Stands table pattern new piece n now.row) (sym is.at) (subst (Stands table pattern new piece (at.at + 1)) (sym is.row) here) in
    let order = c.run_to_end-cursor.ensures.follows.order in
    record {
      right = c.learn.ensures.right;
      letters = c.learn.ensures.letters;
      cursor = stands-cursor table pattern new piece now c.learn.ensures.right stands (omega (arith, within, is.at)) (elim is.accepted [ inl same ↦ omega (arith, order, is.at, same.0) | inr met ↦ omega (arith, is.at, met.0) ]);
      stands = stands;
      passed = passed-on (Stands table pattern new piece) (length piece) (at.at + 1) c.in-Some.row at now (omega (arith, within)) here
          (λ some. let passed = passed-follows table pattern old piece c.moves.cursor at i.right small c.run_to_end-cursor.ensures.follows i.stands i.passed some in (passed.0, stands-grown table pattern old new piece at.accepted_at at.accepted_row c.learn.ensures.grows passed.1)) is.accepted;
    }
