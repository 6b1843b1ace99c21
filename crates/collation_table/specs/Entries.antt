-- What a contract sees of the vectors inside `Rows`.
use Rattle.std.specs.Prelude.{◌≡◌, ℕ, ◌≤◌, max, List, ◌++◌, map, length, flat_map, slice_range, Option, Some, option_map}
use Rattle.std.specs.List.{AllByRecursion}
use Rattle.collation_table.specs.declared.elements.Element.{Element}
use Rattle.collation_table.specs.declared.pages.Place.{Place}
use Rattle.collation_table.specs.declared.rows.RowPlaces.{RowPlaces}
use Rattle.collation_table.specs.Table.{row_with, greatest}

-- what lies at a place
abbrev pub part : {X : Type 0} → List X → Place → List X
part xs p = slice_range xs p.start p.end

-- where the second list lies once it is appended to the first
abbrev pub after : {X : Type 0} → List X → List X → Place
after xs ys = record { start = length xs; end = length (xs ++ ys) }

-- each row, its mapped string among the code points of all mapped strings and its elements among
-- those of all rows
abbrev pub rows_at : List ℕ → List Element → List RowPlaces → List (List ℕ × List Element)
rows_at points elements places = map (λ r. (part points r.string, part elements r.row)) places

pub record IsWithin (points : List ℕ) (elements : List Element) (r : RowPlaces) : Type 0 where
  pub string : r.string.start ≤ r.string.end
  pub string_end : r.string.end ≤ length points
  pub row : r.row.start ≤ r.row.end
  pub row_end : r.row.end ≤ length elements

-- what finds strings answers by the rows, and the rows take up all elements
pub record IsIndexed (points : List ℕ) (elements : List Element) (places : List RowPlaces) (find : List ℕ → Option Place) (longest largest : ℕ) : Type 0 where
  pub within : AllByRecursion (IsWithin points elements) places
  pub all : flat_map (λ row. row.1) (rows_at points elements places) ≡ elements
  pub found : (string : List ℕ) → option_map (part elements) (find string) ≡ row_with string (rows_at points elements places)
  pub lent : (string : List ℕ) (p : Place) → find string ≡ Some p → (p.start ≤ p.end) × (p.end ≤ length elements)
  pub longest_is : longest ≡ greatest (map (λ row. length row.0) (rows_at points elements places))
  pub largest_is : largest ≡ max 2 (greatest (map (λ row. length row.1) (rows_at points elements places)))
