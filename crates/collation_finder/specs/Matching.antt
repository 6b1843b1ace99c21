-- What a window, and a matcher behind it, represent together.
use Rattle.std.specs.Prelude.{◌≡◌, ℕ, ◌≤◌, true, false, List, [], length, All, Contains}
use Rattle.unicode_normalization.specs.StreamSafe.{has_short_runs}
use Rattle.nfd_points.specs.declared.points.Point.{Point}
use Rattle.nfd_points.specs.Reordering.{IsSoundPoint, code_points, is_closed}
use Rattle.collation_table.specs.Table.{TableMap, longest_mapped}
use Rattle.collation_elements.specs.Decided.{left_points}
use Rattle.collation_elements.specs.Windows.{Held, WindowStandsFor, is_decided}
use Rattle.collation_pattern.specs.Compiled.{Compiled}
use Rattle.collation_walk.specs.declared.matching.Matcher.{Matcher}
use Rattle.collation_walk.specs.Walked.{HasWalked}

-- The points went into the window, and those in it are among them; its units went through.
pub record HasMatched (table : TableMap) (pattern : Compiled) (window : Held) (matcher : Matcher) (points : List Point) (ranges : List (ℕ × ℕ)) : Type 0 where
  pub units : List (List Point)
  pub cut : WindowStandsFor table window points units
  pub went : HasWalked table pattern matcher units ranges
  pub kept : All (Contains points) window.points

-- Of a window all units were cut that are decided: what is left in it.
pub record LeavesUndecided (table : TableMap) (old new : Held) : Type 0 where
  pub kept : All (Contains old.points) new.points
  pub short : All IsSoundPoint old.points → has_short_runs 0 (code_points old.points) ≡ true → has_short_runs 0 (code_points new.points) ≡ true
  pub capacity : new.capacity ≡ old.capacity
  pub ended : new.has_ended ≡ old.has_ended
  pub rest : old.has_ended ≡ false → is_closed old.points ≡ true → length new.points ≤ longest_mapped table
  pub last : old.has_ended ≡ false → is_closed old.points ≡ true → is_closed new.points ≡ true
  pub all : old.has_ended ≡ true → new.points ≡ []
  pub undecided : is_decided table new ≡ false
  pub left : old.has_ended ≡ false → new.points ≡ left_points table old.points
