-- The points so far have short runs, and the others decide.
use Rattle.std.proofs.Common.{◌≡◌, ◌≤◌, drop}
use Rattle.unicode_normalization.specs.StreamSafe.{has_short_runs}
use Rattle.nfd_points.specs.declared.limits.TheConstants.{MOST_WAITING}
use Rattle.nfd_points.specs.Reordering.{code_points}
use Rattle.collation_states.proofs.state_points.have_short_runs.Given as goal

abbrev pub invariant-loop-point : goal.invariant-loop-point
invariant-loop-point l = record {
  run : l.run ≤ MOST_WAITING;
  right : has_short_runs 0 (code_points l.fn.points) ≡ has_short_runs l.run (code_points (drop l.point-index l.points));
}
