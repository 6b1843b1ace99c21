-- Unsafe code points: where one stands in a text, what stands before it may reach into it, or a unit may begin there without a primary weight
-- first. And the set in which a table keeps them.
use Rattle.std.specs.Prelude.{ℕ, ◌/◌, ◌%◌, Bool, true, false, ◌==◌, ◌&&◌, ◌||◌, get_or, List, [], ◌∷◌}
use Rattle.std.specs.Int.{bit_at}
use Rattle.std.specs.List.{list_any}
use Rattle.collation_table.specs.declared.elements.Element.{Element}
use Rattle.collation_table.specs.declared.point_set.PointSet.{PointSet}
use Rattle.collation_table.specs.Table.{TableMap}

-- the code point stands in the string behind the first place
abbrev pub is_behind_first : ℕ → List ℕ → Bool
is_behind_first cp [] = false
is_behind_first cp (first ∷ rest) = list_any (λ later. later == cp) rest

-- the string begins with the code point
abbrev pub begins_with : ℕ → List ℕ → Bool
begins_with cp [] = false
begins_with cp (first ∷ rest) = first == cp

-- the first element of the row has no primary weight
abbrev pub lacks_primary : List Element → Bool
lacks_primary [] = true
lacks_primary (e ∷ es) = e.w1 == 0

-- the code point stands in the row's string behind the first place, or the string begins with it and the row has no primary weight first
abbrev pub is_unsafe_by : ℕ → List ℕ × List Element → Bool
is_unsafe_by cp row = is_behind_first cp row.0 || (begins_with cp row.0 && lacks_primary row.1)

abbrev pub is_unsafe : TableMap → ℕ → Bool
is_unsafe T cp = list_any (is_unsafe_by cp) T.rows

-- the code point is in the set
abbrev pub has_point : PointSet → ℕ → Bool
has_point points cp = bit_at (get_or points.words.items (cp / 64) 0) (cp % 64) == 1
