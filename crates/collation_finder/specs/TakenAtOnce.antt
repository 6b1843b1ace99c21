-- A search that takes characters at once: all units so far were cut, as if the text ended there, and no unit reaches into or out of
-- the next character.
use Rattle.std.specs.Prelude.{◌≡◌, ℕ, ◌+◌, true, None, List, [], ◌∷◌, ◌++◌, All}
use Rattle.nfd_points.specs.declared.points.Point.{Point}
use Rattle.collation_table.specs.Table.{TableMap}
use Rattle.nfd_points.specs.Points.{byte_len, decomposition, points_of, points_from, points, begins_with_starter}
use Rattle.nfd_points.specs.PointFaults.{point_fault}
use Rattle.nfd_points.specs.Reordering.{Waiting}
use Rattle.collation_elements.specs.Units.{units}
use Rattle.collation_elements.specs.Windows.{Held}
use Rattle.collation_pattern.specs.Compiled.{Compiled}
use Rattle.collation_walk.specs.declared.matching.Matcher.{Matcher}
use Rattle.collation_walk.specs.Walked.{HasWalked}
use Rattle.collation_letters.specs.Letters.{ordered_from}
pub use Rattle.collation_letters.specs.Apart.{EndsBefore, IsNext}

-- Characters of a text, of which the first stands at an offset, that can be taken at once: they begin with a starter, so that
-- canonical ordering does not cross their beginning, and the same holds of them.
pub record CanBeTakenAtOnce (table : TableMap) (start : ℕ) (cs : List ℕ) (next : ℕ) : Type 0 where
  pub begins : begins_with_starter (points_from start (cs ++ next ∷ [])) ≡ true
  pub next_begins : begins_with_starter (points_of (start + byte_len cs) next) ≡ true
  pub good : point_fault cs ≡ None
  pub ends : EndsBefore table (ordered_from start cs) (start + byte_len cs) next

-- a point's code point is its own decomposition
abbrev pub IsDecomposed : Point → Type 0
IsDecomposed p = decomposition p.cp ≡ p.cp ∷ []

-- and so are all of these, as those of a text are
abbrev pub AreDecomposed : List Point → Type 0
AreDecomposed = All IsDecomposed

-- no unit reaches from these points to what follows
abbrev pub AreClosedHere : TableMap → List Point → Type 0
AreClosedHere table ps = (more : List Point) → units table (ps ++ more) ≡ units table ps ++ units table more

-- ---- a pause

-- all units of the text `taken` were cut, as if it ended there
pub record IsPaused (table : TableMap) (pattern : Compiled) (waiting : Waiting) (window : Held) (matcher : Matcher) (taken : List ℕ) (ranges : List (ℕ × ℕ)) : Type 0 where
  pub walked : HasWalked table pattern matcher (units table (points taken)) ranges
  pub none_waits : waiting.held ≡ []
  pub none_left : window.points ≡ []
  pub good : point_fault taken ≡ None

-- and no unit reaches from them to the character that follows
pub record IsPausedBefore (table : TableMap) (pattern : Compiled) (waiting : Waiting) (window : Held) (matcher : Matcher) (taken : List ℕ) (ranges : List (ℕ × ℕ)) (next : ℕ) : Type 0 where
  pub paused : IsPaused table pattern waiting window matcher taken ranges
  pub ends : EndsBefore table (points taken) (byte_len taken) next
