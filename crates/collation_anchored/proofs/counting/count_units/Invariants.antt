use Rattle.std.proofs.Common.{◌≡◌, ◌≤◌, List, true, false, length}
use Rattle.nfd_points.specs.declared.points.Point.{Point}
use Rattle.nfd_points.specs.Reordering.{is_closed}
use Rattle.collation_pattern.specs.Compiled.{Compiled}
use Rattle.collation_anchored.specs.Counted.{KeysCounted}
use Rattle.collation_anchored.proofs.counting.count_units.Given as goal

abbrev pub invariant-loop-unit : goal.invariant-loop-unit
invariant-loop-unit g l = record {
  within : l.keys ≤ l.most;
  stands : (pattern : Compiled) (points : List Point) → KeysCounted (g.W.Weights.table l.table) pattern l.initial.window l.initial.weigher l.initial.keys points
      → KeysCounted (g.W.Weights.table l.table) pattern l.window l.weigher l.keys points;
  capacity : l.window.capacity ≡ l.initial.window.capacity;
  ended : l.window.has_ended ≡ l.initial.window.has_ended;
  last : l.initial.window.has_ended ≡ false → is_closed l.initial.window.points ≡ true → is_closed l.window.points ≡ true;
}

abbrev pub decreases-loop-unit : goal.decreases-loop-unit
decreases-loop-unit g l = length l.window.points
