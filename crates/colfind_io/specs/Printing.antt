-- The text that is printed for a list of ranges. A range is the offset of its first byte, and that of the byte after its last.
use Rattle.std.specs.Prelude.{ℕ, List, [], ◌++◌, length, codes}
use Rattle.std.specs.List.{flat_map}
use Rattle.std.specs.Fmt.{decimal}
use Rattle.colfind_io.specs.declared.output.Output.{Output}
use Rattle.colfind_io.specs.declared.output.Output.TheVariants.{Ranges, Count, Marks}

-- a line `s:e`
abbrev pub range_line : ℕ × ℕ → List ℕ
range_line range = decimal range.0 ++ codes ":" ++ decimal range.1 ++ codes "\n"

-- a line `[s`, and a line `]e`
abbrev pub mark_lines : ℕ × ℕ → List ℕ
mark_lines range = codes "[" ++ decimal range.0 ++ codes "\n]" ++ decimal range.1 ++ codes "\n"

-- one line, a number
abbrev pub count_line : ℕ → List ℕ
count_line count = decimal count ++ codes "\n"

-- what is printed of one range: a line, or two lines of marks
abbrev pub printed_range : Output → ℕ × ℕ → List ℕ
printed_range Ranges range = range_line range
printed_range Marks range = mark_lines range
printed_range Count range = []

-- what is printed of ranges, each by itself
abbrev pub printed_lines : Output → List (ℕ × ℕ) → List ℕ
printed_lines form ranges = flat_map (printed_range form) ranges

-- what is printed after all ranges, of which there are so many: their number, or nothing
abbrev pub printed_end : Output → ℕ → List ℕ
printed_end Ranges count = []
printed_end Marks count = []
printed_end Count count = count_line count

-- what is printed of a list of ranges
abbrev pub output : Output → List (ℕ × ℕ) → List ℕ
output form ranges = printed_lines form ranges ++ printed_end form (length ranges)
