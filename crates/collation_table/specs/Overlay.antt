-- The overlay of two tables, a base and a tailor: what a table file and a second one that tailors it spell together.
use Rattle.std.specs.Prelude.{◌≡◌, ℕ, not, List, [], ◌++◌, filter}
use Rattle.std.specs.Option.{option_or}
use Rattle.collation_table.specs.Table.{TableMap, row_of, is_mapped}

-- The rows of the base whose strings the tailor does not map, and then the rows of the tailor; the ranges of the base, and then those
-- of the tailor. So a row of the tailor stands in the place of the base's row of the same string, or is one more.
abbrev pub overlay : TableMap → TableMap → TableMap
overlay base tailor = record { rows = filter (λ row. not (is_mapped tailor row.0)) base.rows ++ tailor.rows; ranges = base.ranges ++ tailor.ranges }

abbrev pub empty_table : TableMap
empty_table = record { rows = []; ranges = [] }

-- what the overlay maps, and that a tailor without rows and ranges changes nothing
pub record OverlayLaws : Type 0 where
  -- a string has the tailor's row if there is one, else the base's
  pub rows : (base tailor : TableMap) (string : List ℕ) → row_of (overlay base tailor) string ≡ option_or (row_of tailor string) (row_of base string)
  pub base_alone : (base : TableMap) → overlay base empty_table ≡ base
  pub tailor_alone : (tailor : TableMap) → overlay empty_table tailor ≡ tailor
