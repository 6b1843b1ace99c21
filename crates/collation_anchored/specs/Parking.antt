-- What was put away between two texts.
use Rattle.std.specs.Prelude.{◌≡◌}
use Rattle.collation_table.specs.Table.{TableMap, longest_mapped}
use Rattle.collation_anchored.specs.declared.parking.Parked.{Parked}

-- it was put away by what had this table, or has room for it
abbrev pub IsForTable : TableMap → Parked → Type 0
IsForTable table parked = parked.comparison.value.longest_key ≡ longest_mapped table
