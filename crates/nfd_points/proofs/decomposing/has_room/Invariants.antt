use Rattle.std.proofs.Common.{◌≡◌, ◌≤◌, drop}
use Rattle.unicode_normalization.specs.StreamSafe.{has_short_runs}
use Rattle.nfd_points.specs.declared.limits.TheConstants.{MOST_WAITING}
use Rattle.nfd_points.proofs.decomposing.has_room.Given as goal

abbrev pub invariant-loop-part : goal.invariant-loop-part
invariant-loop-part l = record {
  few : l.run ≤ MOST_WAITING;
  rest : has_short_runs l.run (drop l.part-index l.parts) ≡ has_short_runs l.fn.run l.parts;
}
