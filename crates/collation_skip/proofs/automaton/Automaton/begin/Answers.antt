use Rattle.std.proofs.Common.{◌<◌, sym, subst, arith}
use Rattle.std.proofs.lemmas.List.Elements.{All-from_get_or}
use Rattle.byte_dfa.specs.declared.moves.Cursor.{Cursor}
use Rattle.collation_skip.specs.Rows.{Stands}
use Rattle.collation_skip.proofs.RowLemmas.{row-had}
use Rattle.collation_skip.proofs.RunLemmas.{passed-follows, stands-cursor, stands-follows}
use Rattle.collation_skip.proofs.automaton.Automaton.begin.Goals as goal

pub returns-in_default-clause-stands : goal.returns-in_default-clause-stands
returns-in_default-clause-stands g c =
    subst (λ n. Stands (g.W.Weights.table c.args.table.now) c.args.pattern.now c.first_row.new.self c.args.piece.now n c.in_ok-row.row) (sym c.len_utf8.ensures.value) (c.in_ok-row.ensures.stands c.args.piece.now c.in_ok-first.ensures.some.1)

pub returns-in_default-clause-cursor : goal.returns-in_default-clause-cursor
returns-in_default-clause-cursor g c =
    let within = c.in_ok-first.ensures.some.0 in
    stands-cursor (g.W.Weights.table c.args.table.now) c.args.pattern.now c.first_row.new.self c.args.piece.now _ c.first_row.ensures.right (returns-in_default-clause-stands g c) (omega (arith, within, c.len_utf8.ensures.value)) (omega arith)

pub run_by_four-requires-clause-cursor : goal.run_by_four-requires-clause-cursor
run_by_four-requires-clause-cursor g c =
    let table = g.W.Weights.table c.args.table.now in
    let piece = c.args.piece.now in
    let within = c.in_ok-first.ensures.some.0 in
    let stands = subst (λ n. Stands table c.args.pattern.now c.first_row.new.self piece n c.in_ok-row.row) (sym c.len_utf8.ensures.value) (c.in_ok-row.ensures.stands piece c.in_ok-first.ensures.some.1) in
    stands-cursor table c.args.pattern.now c.first_row.new.self piece _ c.first_row.ensures.right stands (omega (arith, within, c.len_utf8.ensures.value)) (omega arith)

pub run_by_four-requires-clause-home : goal.run_by_four-requires-clause-home
run_by_four-requires-clause-home g c =
    let home = c.in-Some.ensures.row in
    row-had (g.W.Weights.table c.args.table.now) c.args.pattern.now c.first_row.new.self c.in-Some.home home.0 c.first_row.ensures.right (c.first_row.ensures.grows c.in-Some.home home.0 home.1)

pub returns-clause-stands : goal.returns-clause-stands
returns-clause-stands g c =
    let table = g.W.Weights.table c.args.table.now in
    let piece = c.args.piece.now in
    let begun : Cursor = record { at = c.len_utf8.result; row = c.in_ok-row.row; accepted_at = 0; accepted_row = 0 } in
    let stands = subst (λ n. Stands table c.args.pattern.now c.first_row.new.self piece n c.in_ok-row.row) (sym c.len_utf8.ensures.value) (c.in_ok-row.ensures.stands piece c.in_ok-first.ensures.some.1) in
    stands-follows table c.args.pattern.now c.first_row.new.self piece begun c.run_by_four.result c.first_row.ensures.right (All-from_get_or (λ n. n < 256) piece 0 (λ i _. (c.type_inv.piece i).fits)) c.run_by_four.ensures stands

pub returns-clause-passed : goal.returns-clause-passed
returns-clause-passed g c =
    let table = g.W.Weights.table c.args.table.now in
    let piece = c.args.piece.now in
    let begun : Cursor = record { at = c.len_utf8.result; row = c.in_ok-row.row; accepted_at = 0; accepted_row = 0 } in
    let stands = subst (λ n. Stands table c.args.pattern.now c.first_row.new.self piece n c.in_ok-row.row) (sym c.len_utf8.ensures.value) (c.in_ok-row.ensures.stands piece c.in_ok-first.ensures.some.1) in
    passed-follows table c.args.pattern.now c.first_row.new.self piece begun c.run_by_four.result c.first_row.ensures.right (All-from_get_or (λ n. n < 256) piece 0 (λ i _. (c.type_inv.piece i).fits)) c.run_by_four.ensures stands
    (λ some. absurd (omega (arith, some)))
