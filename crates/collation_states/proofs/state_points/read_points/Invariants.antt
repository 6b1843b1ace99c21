-- The points so far are read, and the others decide.
use Rattle.std.proofs.Common.{◌≡◌, ◌+◌, ◌*◌, ◌≤◌, ◌++◌, All, length}
use Rattle.nfd_points.specs.Reordering.{IsSoundPoint}
use Rattle.collation_states.specs.StateTests as tests
use Rattle.collation_states.proofs.state_points.read_points.Given as goal

abbrev pub invariant-loop-rest : goal.invariant-loop-rest
invariant-loop-rest l = record {
  points : l.points.items ++ tests.points_in l.rest ≡ tests.points_in l.fn.words;
  sound : All IsSoundPoint l.points.items;
  few : 4 * length l.points.items + length l.rest ≤ length l.fn.words;
  right : tests.are_points l.fn.end l.fn.words ≡ tests.are_points l.fn.end l.rest;
}

abbrev pub decreases-loop-rest : goal.decreases-loop-rest
decreases-loop-rest l = length l.rest
