-- How many words a state has.
use Rattle.std.specs.Prelude.{◌≡◌, ℕ, ◌+◌, ◌*◌, ◌≤◌, List, length}
use Rattle.nfd_points.specs.declared.limits.TheConstants.{MOST_WAITING}
use Rattle.collation_table.specs.Table.{longest_mapped}
use Rattle.collation_matches.specs.declared.select.Select.{Select}
use Rattle.collation_matches.specs.declared.select.Select.TheVariants.{All, Chain}
use Rattle.collation_matches.specs.Sought.{Sought}

-- whole records of four words, at most so many
abbrev pub HasRecords : List ℕ → ℕ → Type 0
HasRecords words most = (n : ℕ) × (n ≤ most) × (length words ≡ 4 * n)

-- how many records a state has before those of places and points
abbrev pub records_before : Select → ℕ
records_before All = 5
records_before Chain = 6

-- how many records a state has at most: one for each key of the pattern, each code point of the longest key and each non-starter
-- that waits, and those before
abbrev pub most_records : Sought → ℕ
most_records s = records_before s.select + length s.pattern.keys + longest_mapped s.table + MOST_WAITING
