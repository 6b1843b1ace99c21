use Rattle.std.proofs.Common.{◌≡◌, ◌+◌, ◌≤◌, ℕ, List, ◌++◌, true, false, length}
use Rattle.nfd_points.specs.declared.points.Point.{Point}
use Rattle.std.specs.List.{All, Contains}
use Rattle.unicode_normalization.specs.StreamSafe.{has_short_runs}
use Rattle.nfd_points.specs.Reordering.{IsSoundPoint, code_points, is_closed}
use Rattle.collation_elements.specs.Decided.{left_points}
use Rattle.collation_finder.specs.Matching.{HasMatched}
use Rattle.collation_walk.specs.Walks.{KeepsWalk}
use Rattle.collation_finder.proofs.cutting.cut_units.Given as goal

abbrev pub invariant-loop-unit : goal.invariant-loop-unit
invariant-loop-unit g l = record {
  stands : (points : List Point) (ranges : List (ℕ × ℕ))
      → HasMatched (g.W.Weights.table l.table) l.pattern l.initial.window l.initial.matcher points (ranges ++ l.initial.found.items)
      → HasMatched (g.W.Weights.table l.table) l.pattern l.window l.matcher points (ranges ++ l.found.items);
  few : length l.found.items + length l.window.points ≤ length l.initial.found.items + length l.initial.window.points;
  kept : All (Contains l.initial.window.points) l.window.points;
  short : All IsSoundPoint l.initial.window.points → has_short_runs 0 (code_points l.initial.window.points) ≡ true
      → has_short_runs 0 (code_points l.window.points) ≡ true;
  capacity : l.window.capacity ≡ l.initial.window.capacity;
  ended : l.window.has_ended ≡ l.initial.window.has_ended;
  last : l.initial.window.has_ended ≡ false → is_closed l.initial.window.points ≡ true → is_closed l.window.points ≡ true;
  left : l.initial.window.has_ended ≡ false
      → left_points (g.W.Weights.table l.table) l.window.points ≡ left_points (g.W.Weights.table l.table) l.initial.window.points;
  keeps : KeepsWalk l.pattern l.initial.matcher.walk l.matcher.walk;
}

abbrev pub decreases-loop-unit : goal.decreases-loop-unit
decreases-loop-unit g l = length l.window.points
