use Rattle.std.proofs.Common.{◌≡◌, ◌-◌, ◌≤◌, length}
use Rattle.collation_elements.proofs.Joining.{IsHighest, JoinsSoFar}
use Rattle.collation_elements.proofs.window.take_joining.Given as goal

abbrev pub invariant-loop-left : goal.invariant-loop-left
invariant-loop-left g l = record {
  within : l.left ≤ length l.points.items;
  capacity : l.points.capacity ≡ l.fn.points.capacity;
  highest : IsHighest l.points.items l.left l.highest_left;
  so_far : JoinsSoFar (g.W.Weights.table l.table) l.fn.string.items l.fn.points.items l.string.items l.points.items l.left;
}

abbrev pub decreases-loop-left : goal.decreases-loop-left
decreases-loop-left g l = length l.points.items - l.left
