-- What a window of points holds, and what it represents.
use Rattle.std.specs.Prelude.{◌≡◌, ℕ, Bool, true, ◌||◌, ◌&&◌, nat_lt, nat_le, List, [], ◌∷◌, ◌++◌, drop, length, Option, Some, slice_get}
use Rattle.std.specs.List.{list_any}
use Rattle.nfd_points.specs.declared.points.Point.{Point}
use Rattle.nfd_points.specs.Points.{is_starter}
use Rattle.collation_table.specs.declared.elements.Element.{Element}
use Rattle.collation_table.specs.Table.{TableMap, BeginsNoLongerString, row_of, longest_mapped}
use Rattle.collation_elements.specs.Units.{Cut, prefix_length, first_unit, units}

-- the points of a window, how many it may hold, and whether it was announced that none follows
pub record Held : Type 0 where
  pub points : List Point
  pub capacity : ℕ
  pub has_ended : Bool

-- The unit at the front of a window is decided where the end was announced and the window is not empty, or where the window
-- holds at least as many points as the longest mapped string and a starter stands in it after the longest prefix that is
-- mapped.
abbrev pub is_decided : TableMap → Held → Bool
is_decided table held =
    let following = drop (prefix_length table held.points) held.points in
    let holds_any = nat_lt 0 (length held.points) in
    let holds_longest = nat_le (longest_mapped table) (length held.points) in
    (held.has_ended && holds_any) || (holds_longest && list_any is_starter following)

-- the first unit of a list of points, and the points that it leaves
abbrev pub next_cut : TableMap → List Point → Cut
next_cut table [] = record { unit = []; rest = [] }
next_cut table (p ∷ ps) = first_unit table p ps

-- no mapped string of two or more code points begins with that of the first point
abbrev pub BeginsAlone : TableMap → List Point → Type 0
BeginsAlone table points = (p : Point) → slice_get points 0 ≡ Some p → BeginsNoLongerString table p.cp

-- what the table has for the code point of the first point alone
abbrev pub HasFirstRow : TableMap → List Point → Option (List Element) → Type 0
HasFirstRow table points row = (p : Point) → slice_get points 0 ≡ Some p → row ≡ row_of table (p.cp ∷ [])

-- What a window represents: `taken` are the points that it was given, and `given` the units that were cut from it, where
-- with each list of points that may follow (none, once the end was announced) the units of all are those given and then those
-- of what the window holds and what follows.
pub record WindowStandsFor (table : TableMap) (held : Held) (taken : List Point) (given : List (List Point)) : Type 0 where
  pub continues : (more : List Point) → (held.has_ended ≡ true → more ≡ []) → units table (taken ++ more) ≡ given ++ units table (held.points ++ more)
