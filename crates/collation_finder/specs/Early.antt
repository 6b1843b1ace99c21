-- Units that were cut early, within a piece, as if the text ended before a character that begins with a starter.
use Rattle.std.specs.Prelude.{◌≡◌, ◌⊎◌, ℕ, ◌≤◌, true, List, ◌∷◌, ◌++◌}
use Rattle.nfd_points.specs.declared.points.Point.{Point}
use Rattle.nfd_points.specs.Points.{byte_len, points, is_starter}
use Rattle.nfd_points.specs.Reordering.{up_to_last_starter}
use Rattle.collation_table.specs.Table.{TableMap}
use Rattle.collation_elements.specs.Decided.{left_points}
use Rattle.collation_elements.specs.Units.{units}

-- The points of a text that no character which follows can change or go before: a starter is final when it comes, a non-starter
-- once a starter follows.
abbrev pub final_points : List ℕ → List Point
final_points cs = up_to_last_starter (points cs)

-- Of the characters taken, all units of those before a byte offset at most were cut, as if the text ended there, and then those that
-- are decided among the final points from there on, the first of which is a starter across which no unit reaches. `left` are the
-- points of which no unit was cut.
pub record IsCutEarly (table : TableMap) (place : ℕ) (taken : List ℕ) (left : List Point) : Type 0 where
  pub before : List ℕ
  pub first : Point
  pub later : List Point
  pub early : byte_len before ≤ place
  pub final : final_points taken ≡ points before ++ first ∷ later
  pub starter : is_starter first ≡ true
  pub ends : (more : List Point) → units table (points before ++ first ∷ more) ≡ units table (points before) ++ units table (first ∷ more)
  pub rest : left ≡ left_points table (first ∷ later)

-- The points left are exactly those that are not decided, or units were cut early, up to a byte offset at most.
abbrev pub IsCutUpTo : TableMap → ℕ → List ℕ → List Point → Type 0
IsCutUpTo table place taken left = (left ≡ left_points table (final_points taken)) ⊎ IsCutEarly table place taken left
