use Rattle.std.proofs.Common.{◌≤◌, length, take, refl, sym, subst, arith, inl, inr}
use Rattle.std.proofs.lemmas.Bool.{cases_lt}
use Rattle.std.proofs.lemmas.List.{length-take}
use Rattle.collation_letters.proofs.SymbolLemmas.{some-map}
use Rattle.collation_skip.specs.Passed.{PassesTo}
use Rattle.collation_skip.specs.Rows.{AreRowsRight}
use Rattle.collation_skip.proofs.RowLemmas.{right-same}
use Rattle.collation_skip.proofs.RunLemmas.{stands-whole}
use Rattle.collation_skip.proofs.automaton.Automaton.pass.Goals.{then-self, else-self}
use Rattle.collation_skip.proofs.automaton.Automaton.pass.Goals as goal

pub go-requires-clause-right : goal.go-requires-clause-right
go-requires-clause-right g c =
    let table = g.W.Weights.table c.args.table.now in
    let pattern = c.args.pattern.now in
    elim c.if-self.branch [
      | then-self w ↦ subst (AreRowsRight table pattern) (sym w.self-is) (w.keep_marks.ensures table pattern)
      | else-self w ↦ subst (AreRowsRight table pattern) (sym w.self-is) c.requires.right
    ]

pub answer-requires-clause-passed : goal.answer-requires-clause-passed
answer-requires-clause-passed g c = λ some.
    let table = g.W.Weights.table c.args.table.now in
    let at = c.in_ok-cursor.cursor in
    let piece = c.args.piece.now in
    let passed = c.in_ok-cursor.ensures.passed some in
    (omega (arith, passed.0, length-take c.min.result piece), stands-whole table c.args.pattern.now c.go.new.self piece c.min.result at.accepted_at at.accepted_row passed.0 passed.1)

pub returns-clause-passes : goal.returns-clause-passes
returns-clause-passes g c =
    let table = g.W.Weights.table c.args.table.now in
    let pattern = c.args.pattern.now in
    let at = c.in_ok-cursor.cursor.accepted_at in
    let piece = c.args.piece.now in
    some-map {P = PassesTo table pattern piece at} {Q = PassesTo table pattern piece c.args.reach} c.answer.result c.answer.ensures.passes (λ to p. record {
      within = p.within;
      order = p.order;
      reach = elim (cases_lt 0 at) [
        | inl some ↦ (let near : at ≤ length (take c.min.result piece) = (c.in_ok-cursor.ensures.passed some).0 in omega (arith, p.reach, near, length-take c.min.result piece, c.min.ensures))
        | inr none ↦ omega (arith, p.reach, none)
      ];
      next = p.next;
      letter = p.letter;
      text = p.text;
      passed = p.passed;
    })

pub returns-clause-right : goal.returns-clause-right
returns-clause-right g c =
    let a = c.go.new.self in
    right-same (g.W.Weights.table c.args.table.now) c.args.pattern.now a (record a { keeping = c.pay.new.self }) refl refl c.go.ensures.right
