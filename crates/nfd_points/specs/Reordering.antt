-- What a reorderer holds between two code points, and what it has done with a text so far.
use Rattle.std.specs.Prelude.{◌≡◌, ℕ, ◌<◌, ◌≤◌, Bool, true, not, ◌&&◌, nat_le, List, [], ◌∷◌, ◌++◌, length, map, flat_map, None, All, if◌then◌else◌}
use Rattle.std.specs.Char.{IsScalar}
use Rattle.std.specs.List.{list_all}
use Rattle.unicode_normalization.specs.Lookups.{canonical_combining_class}
use Rattle.nfd_points.specs.declared.limits.TheConstants.{MOST_WAITING}
use Rattle.nfd_points.specs.declared.points.Point.{Point}
use Rattle.nfd_points.specs.Points.{decomposition, byte_len, points_from, points, is_starter, is_in_order, ordered}
use Rattle.nfd_points.specs.PointFaults.{run_after, point_fault}

-- the non-starters since the last starter
pub record Waiting : Type 0 where
  pub held : List Point

abbrev pub is_non_starter : Point → Bool
is_non_starter p = not (is_starter p)

abbrev pub code_points : List Point → List ℕ
code_points = map (λ p. p.cp)

-- a scalar value with its class
pub record IsSoundPoint (p : Point) : Type 0 where
  pub scalar : IsScalar p.cp
  pub in_range : p.cp < 0x11_0000
  pub class : p.ccc ≡ canonical_combining_class p.cp

-- what may wait: non-starters in canonical order, no more than may stand in a row
pub record IsHeld (ps : List Point) : Type 0 where
  pub non_starters : list_all is_non_starter ps ≡ true
  pub in_order : is_in_order ps ≡ true
  pub few : length ps ≤ MOST_WAITING
  pub sound : All IsSoundPoint ps

-- each point has at least the class of the one before it, and the first at least `class`
unfoldable pub rises_from : ℕ → List Point → Bool
rises_from class [] = true
rises_from class (p ∷ ps) = nat_le class p.ccc && rises_from p.ccc ps

-- no point, or the last one is a starter, so that no later point goes before one of these
unfoldable pub is_closed : List Point → Bool
is_closed [] = true
is_closed (p ∷ []) = is_starter p
is_closed (p ∷ q ∷ qs) = is_closed (q ∷ qs)

-- the points from the first on up to the last starter, that one included, or none where there is no starter
abbrev pub keep_up_to : Point → List Point → List Point
keep_up_to p [] = if is_starter p then p ∷ [] else []
keep_up_to p (q ∷ qs) = p ∷ q ∷ qs

unfoldable pub up_to_last_starter : List Point → List Point
up_to_last_starter [] = []
up_to_last_starter (p ∷ ps) = keep_up_to p (up_to_last_starter ps)

-- The code points `taken` went in and the points `given` came out.
--   continues: however the text goes on, its points are those given, and then those that wait and come later, in order
--   closed: those given end in a starter
--   good: no code point taken is at fault
--   run: as many points wait as non-starters stand at the end of what was taken
pub record HasReordered (w : Waiting) (taken : List ℕ) (given : List Point) : Type 0 where
  pub continues : (rest : List ℕ) → points (taken ++ rest) ≡ given ++ ordered (w.held ++ points_from (byte_len taken) rest)
  pub closed : is_closed given ≡ true
  pub held : IsHeld w.held
  pub good : point_fault taken ≡ None
  pub run : run_after 0 (flat_map decomposition taken) ≡ length w.held
