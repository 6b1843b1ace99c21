use Rattle.std.proofs.Common.{◌+◌, arith}
use Rattle.byte_dfa.proofs.RunLemmas.{run-more, run-none}
use Rattle.byte_dfa.proofs.four_runs.move_all.Goals as goal

pub moves-init : goal.moves-init
moves-init c =
    let none = run-none c.args.cells.now c.args.piece.now in
    let from = c.args.from in
    let spots = c.requires.spots in
    record { within = omega arith; first = none from.first spots.0; second = none from.second spots.1.0; third = none from.third spots.1.1.0; fourth = none from.fourth spots.1.1.1 }

pub moves-preserved : goal.moves-preserved
moves-preserved c =
    let from = c.args.from in
    let n = c.moves.moves in
    let table = c.requires.cells in
    let i = c.moves.invariant in
    let more = run-more c.args.cells.now c.args.piece.now in
    let going = c.moves-test.true in
    record {
      within = omega (arith, going);
      first = more from.first n c.moves.first c.cell_at-first.result table (omega (arith, going, c.requires.first)) (c.type_inv.piece (from.first.at + n)).fits c.cell_at-first.ensures i.first;
      second = more from.second n c.moves.second c.cell_at-second.result table (omega (arith, going, c.requires.second)) (c.type_inv.piece (from.second.at + n)).fits c.cell_at-second.ensures i.second;
      third = more from.third n c.moves.third c.cell_at-third.result table (omega (arith, going, c.requires.third)) (c.type_inv.piece (from.third.at + n)).fits c.cell_at-third.ensures i.third;
      fourth = more from.fourth n c.moves.fourth c.cell_at-fourth.result table (omega (arith, going, c.requires.fourth)) (c.type_inv.piece (from.fourth.at + n)).fits c.cell_at-fourth.ensures i.fourth;
    }
