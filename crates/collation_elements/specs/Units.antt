-- The units of a text: which points one collation element mapping takes (UTS #10, S2.1 to S2.1.3).
use Rattle.std.specs.Prelude.{◌≡◌, ℕ, Bool, true, ◌||◌, ◌&&◌, not, nat_le, List, [], ◌∷◌, ◌++◌, take, drop, max, if◌then◌else◌}
use Rattle.std.specs.List.{list_any}
use Rattle.nfd_points.specs.declared.points.Point.{Point}
use Rattle.nfd_points.specs.Points.{is_starter}
pub use Rattle.nfd_points.specs.Reordering.{code_points}
use Rattle.collation_table.specs.Table.{TableMap, GoesOnInNoString, is_mapped, longest_prefix}

-- b, which stands between a unit and the later point c, blocks c from it
abbrev pub blocks : Point → Point → Bool
blocks c b = is_starter b || nat_le c.ccc b.ccc

-- c is not blocked by the points `between` it and the unit, and together with it the unit is mapped
abbrev pub joins : TableMap → List Point → List Point → Point → Bool
joins table unit between c = not (list_any (blocks c) between) && is_mapped table (code_points (unit ++ c ∷ []))

-- a unit, and the points that it leaves
pub record Cut : Type 0 where
  pub unit : List Point
  pub rest : List Point

-- S2.1.1 to S2.1.3: each non-starter that follows the unit, up to the next starter, is looked at in turn; one that
-- joins is taken out of the rest. `between` are those that were looked at and stay.
abbrev pub extended : TableMap → List Point → List Point → List Point → Cut
extended table unit between [] = record { unit = unit; rest = between }
extended table unit between (c ∷ following) =
    let stop : Cut = record { unit = unit; rest = between ++ c ∷ following } in
    let taken = extended table (unit ++ c ∷ []) between following in
    let left = extended table unit (between ++ c ∷ []) following in
    if is_starter c then stop else (if joins table unit between c then taken else left)

-- S2.1: how long the longest prefix is that is mapped; the first point counts where no prefix is one
abbrev pub prefix_length : TableMap → List Point → ℕ
prefix_length table ps = max 1 (longest_prefix table (code_points ps))

-- S2.1: the longest prefix that is mapped or, where none is, the first point; then what joins it
abbrev pub first_unit : TableMap → Point → List Point → Cut
first_unit table p ps =
    let n = prefix_length table (p ∷ ps) in extended table (take n (p ∷ ps)) [] (drop n (p ∷ ps))

-- the units of at most as many points as `fuel` has
abbrev pub units_within : List Point → TableMap → List Point → List (List Point)
units_within [] table ps = []
units_within (f ∷ fuel) table [] = []
units_within (f ∷ fuel) table (p ∷ ps) =
    let cut = first_unit table p ps in cut.unit ∷ units_within fuel table cut.rest

abbrev pub units : TableMap → List Point → List (List Point)
units table ps = units_within ps table ps

-- ---- laws

-- two points are a unit, whatever follows them, where their code points are a mapped string and no longer one begins with it
abbrev pub MappedPairsAreUnits : Type 0
MappedPairsAreUnits =
    (table : TableMap) (p q : Point) (more : List Point) → is_mapped table (p.cp ∷ q.cp ∷ []) ≡ true → GoesOnInNoString table (p.cp ∷ q.cp ∷ []) → units table (p ∷ q ∷ more) ≡ (p ∷ q ∷ []) ∷ units table more
