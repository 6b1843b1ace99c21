use Rattle.std.proofs.Common.{inl, refl, arith}
use Rattle.byte_dfa.specs.Moves.{Follows}
use Rattle.byte_dfa.proofs.MoveLemmas.{cursor_at, follows-on, leads-on}
use Rattle.byte_dfa.proofs.four_runs.run_by_four.Goals as goal

pub returns : goal.returns
returns c =
    let cells = c.args.cells.now in
    let piece = c.args.piece.now in
    let from = c.args.from in
    let begun = c.in-Some.begun in
    let ended = c.run_all-ended.result in
    let first = cursor_at ended.first.at ended.first.row from.accepted_at from.accepted_row in
    let leads = leads-on cells piece from.at from.row begun.first.at begun.first.row ended.first.at ended.first.row c.in-Some.ensures.first c.run_all-ended.ensures.0 in
    let on = leads.on in
    let order = c.requires.cursor.order in
    let come : Follows cells piece from first = record { here = leads; order = omega (arith, on, order); accepted = inl (refl, refl) } in
    follows-on cells piece from c.join-third.result c.join.result (follows-on cells piece from c.join-second.result c.join-third.result (follows-on cells piece from first c.join-second.result come c.join-second.ensures) c.join-third.ensures) c.join.ensures
