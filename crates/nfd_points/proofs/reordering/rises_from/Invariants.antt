use Rattle.std.proofs.Common.{◌≡◌, drop}
use Rattle.nfd_points.specs.Reordering.{rises_from}
use Rattle.nfd_points.proofs.reordering.rises_from.Given as goal

abbrev pub invariant-loop-point : goal.invariant-loop-point
invariant-loop-point l = rises_from l.class (drop l.point-index l.points) ≡ rises_from l.fn.class l.points
