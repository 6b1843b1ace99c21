use Rattle.std.proofs.Common.{◌≡◌, List, true, false, length}
use Rattle.nfd_points.specs.declared.points.Point.{Point}
use Rattle.collation_elements.specs.Texts.{Gives, HasSettings}
use Rattle.nfd_points.specs.Reordering.{is_closed}
use Rattle.collation_elements.proofs.texts.cut_units.Given as goal

abbrev pub invariant-loop-unit : goal.invariant-loop-unit
invariant-loop-unit g l = record {
  stands : (taken : List Point) → Gives (g.W.Weights.table l.table) l.initial.window l.initial.weigher l.initial.items.items taken
      → Gives (g.W.Weights.table l.table) l.window l.weigher l.items.items taken;
  capacity : l.window.capacity ≡ l.initial.window.capacity;
  ended : l.window.has_ended ≡ l.initial.window.has_ended;
  settings : HasSettings l.weigher l.initial.weigher;
  last : l.initial.window.has_ended ≡ false → is_closed l.initial.window.points ≡ true → is_closed l.window.points ≡ true;
}

abbrev pub decreases-loop-unit : goal.decreases-loop-unit
decreases-loop-unit g l = length l.window.points
