use Rattle.std.proofs.Common.{◌≡◌, List, true, false, length}
use Rattle.nfd_points.specs.declared.points.Point.{Point}
use Rattle.nfd_points.specs.Reordering.{is_closed}
use Rattle.collation_anchored.specs.Compared.{KeysCame}
use Rattle.collation_anchored.proofs.cutting.cut_units.Given as goal

abbrev pub invariant-loop-unit : goal.invariant-loop-unit
invariant-loop-unit g l = record {
  stands : (points : List Point) → KeysCame (g.W.Weights.table l.table) l.pattern l.initial.window l.initial.weigher l.initial.progress points
      → KeysCame (g.W.Weights.table l.table) l.pattern l.window l.weigher l.progress points;
  capacity : l.window.capacity ≡ l.initial.window.capacity;
  ended : l.window.has_ended ≡ l.initial.window.has_ended;
  last : l.initial.window.has_ended ≡ false → is_closed l.initial.window.points ≡ true → is_closed l.window.points ≡ true;
}

abbrev pub decreases-loop-unit : goal.decreases-loop-unit
decreases-loop-unit g l = length l.window.points
