-- The boundaries of a text, at which a match may begin or end (UTS #10, section 11, leaves the choice): its two ends, and
-- each offset at which a cluster begins.
use Rattle.std.specs.Prelude.{ℕ, zero, suc, Bool, ◌==◌, ◌||◌, List, [], ◌∷◌, ◌++◌, flat_map, filter, length, if◌then◌else◌}
use Rattle.std.specs.List.{list_any}
use Rattle.std.specs.Str.{chars}
use Rattle.nfd_points.specs.declared.points.Point.{Point}
use Rattle.nfd_points.specs.Points.{points}
use Rattle.collation_table.specs.Table.{TableMap}
use Rattle.collation_elements.specs.Units.{units}
use Rattle.collation_elements.specs.Elements.{begins_cluster}

abbrev pub unit_starts : TableMap → List Point → List ℕ
unit_starts table [] = []
unit_starts table (p ∷ ps) = let start = p.offset ∷ [] in if begins_cluster table (p ∷ ps) then start else []

-- the byte offsets at which clusters begin
abbrev pub cluster_starts : TableMap → List Point → List ℕ
cluster_starts table ps = flat_map (unit_starts table) (units table ps)

-- 0, 1, .. n
abbrev pub offsets_to : ℕ → List ℕ
offsets_to zero = 0 ∷ []
offsets_to (suc n) = offsets_to n ++ suc n ∷ []

abbrev pub is_boundary : List ℕ → ℕ → ℕ → Bool
is_boundary starts len p = p == 0 || p == len || list_any (λ start. start == p) starts

-- the boundaries of a text of bytes, rising
abbrev pub boundaries : TableMap → List ℕ → List ℕ
boundaries table text =
    let starts = cluster_starts table (points (chars text)) in filter (is_boundary starts (length text)) (offsets_to (length text))
