use Rattle.std.proofs.Common.{◌≡◌, take}
use Rattle.collation_finder.proofs.pausing.move_points.Given as goal

abbrev pub invariant-loop-i : goal.invariant-loop-i
invariant-loop-i l = l.points.items ≡ take l.i l.window.points
