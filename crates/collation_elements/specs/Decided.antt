-- The units that are decided among the points of a text that are final so far: those that no point which follows can change.
use Rattle.std.specs.Prelude.{◌≡◌, suc, ◌≤◌, Bool, true, false, ◌&&◌, nat_le, List, [], ◌∷◌, ◌++◌, drop, length, if◌then◌else◌}
use Rattle.std.specs.List.{list_any}
use Rattle.nfd_points.specs.declared.points.Point.{Point}
use Rattle.nfd_points.specs.Points.{is_starter}
use Rattle.collation_table.specs.Table.{TableMap, longest_mapped}
use Rattle.collation_elements.specs.Units.{prefix_length, units}
use Rattle.collation_elements.specs.Windows.{Held, is_decided, next_cut}

-- The first unit is decided: there are at least as many points as the longest mapped string has, and a starter among those after
-- the longest prefix that is mapped.
abbrev pub begins_decided : TableMap → List Point → Bool
begins_decided table ps = nat_le (longest_mapped table) (length ps) && list_any is_starter (drop (prefix_length table ps) ps)

-- the decided units of at most as many points as `fuel` has, and the points that they leave
abbrev pub decided_within : List Point → TableMap → List Point → List (List Point)
decided_within [] table ps = []
decided_within (f ∷ fuel) table ps =
    let cut = next_cut table ps in
    let more = cut.unit ∷ decided_within fuel table cut.rest in
    if begins_decided table ps then more else []

abbrev pub left_within : List Point → TableMap → List Point → List Point
left_within [] table ps = ps
left_within (f ∷ fuel) table ps =
    let cut = next_cut table ps in
    let later = left_within fuel table cut.rest in
    if begins_decided table ps then later else ps

-- units are cut while the first unit of the rest is decided
abbrev pub decided_units : TableMap → List Point → List (List Point)
decided_units table ps = decided_within ps table ps

-- the points that are left then
abbrev pub left_points : TableMap → List Point → List Point
left_points table ps = left_within ps table ps

-- ---- laws

-- where the first unit is decided, the units left are those of what it leaves, and else none is cut
abbrev pub DecidedUnitsAreCut : Type 0
DecidedUnitsAreCut =
    (table : TableMap) (held : Held) → held.has_ended ≡ false → is_decided table held ≡ true → left_points table held.points ≡ left_points table (next_cut table held.points).rest

abbrev pub UndecidedUnitsAreLeft : Type 0
UndecidedUnitsAreLeft = (table : TableMap) (held : Held) → is_decided table held ≡ false → left_points table held.points ≡ held.points

-- the decided units begin the units of the points
abbrev pub DecidedUnitsBegin : Type 0
DecidedUnitsBegin = (table : TableMap) (ps : List Point) → units table ps ≡ decided_units table ps ++ units table (left_points table ps)

-- A unit that is decided stays decided, whatever follows: of more points those units are cut, and then those of what they left and
-- what follows.
abbrev pub DecidedUnitsStay : Type 0
DecidedUnitsStay =
    (table : TableMap) (ps more : List Point) →
    (decided_units table (ps ++ more) ≡ decided_units table ps ++ decided_units table (left_points table ps ++ more))
    × (left_points table (ps ++ more) ≡ left_points table (left_points table ps ++ more))

-- Units may be cut early, as if the text ended before a starter, where none reaches across it. Once as many points as the longest
-- mapped string has, or one fewer, stand from the starter on, all these units are decided, so that the same points are left.
abbrev pub EarlyCutsAreMadeGood : Type 0
EarlyCutsAreMadeGood =
    (table : TableMap) (early : List Point) (first : Point) (later : List Point) → is_starter first ≡ true →
    ((more : List Point) → units table (early ++ first ∷ more) ≡ units table early ++ units table (first ∷ more)) →
    longest_mapped table ≤ suc (length (first ∷ later)) →
    left_points table (early ++ first ∷ later) ≡ left_points table (first ∷ later)
