use Rattle.std.proofs.Common.{◌+◌, ◌-◌, ◌≤◌, length}
use Rattle.byte_dfa.specs.Moves.{Follows}
use Rattle.byte_dfa.proofs.windows.run_by_windows.Given as goal

abbrev pub invariant-legs : goal.invariant-legs
invariant-legs l = record {
  guesses : 4096 ≤ length l.guesses;
  follows : Follows l.cells l.piece l.fn.from l.cursor;
}

abbrev pub decreases-legs : goal.decreases-legs
decreases-legs l = l.last + 1 - l.cursor.at

abbrev pub invariant-windows : goal.invariant-windows
invariant-windows l = record {
  guesses : 4096 ≤ length l.guesses;
  follows : Follows l.cells l.piece l.fn.from l.cursor;
}

abbrev pub decreases-windows : goal.decreases-windows
decreases-windows l = l.last + 1 - l.cursor.at
