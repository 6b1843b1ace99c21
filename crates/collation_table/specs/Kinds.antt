-- The number of each kind of fault that a table file can have.
use Rattle.std.specs.Prelude.{ℕ}

abbrev pub malformed_line_kind : ℕ
malformed_line_kind = 1

abbrev pub beyond_unicode_kind : ℕ
beyond_unicode_kind = 2

abbrev pub mapped_twice_kind : ℕ
mapped_twice_kind = 3

abbrev pub too_long_kind : ℕ
too_long_kind = 4

abbrev pub wf1_kind : ℕ
wf1_kind = 5

abbrev pub wf2_kind : ℕ
wf2_kind = 6

abbrev pub wf3_kind : ℕ
wf3_kind = 7

abbrev pub wf4_kind : ℕ
wf4_kind = 8

abbrev pub wf5_kind : ℕ
wf5_kind = 9

abbrev pub pair_rule_kind : ℕ
pair_rule_kind = 10

abbrev pub bad_range_kind : ℕ
bad_range_kind = 11

abbrev pub no_entry_kind : ℕ
no_entry_kind = 12

abbrev pub too_many_lines_kind : ℕ
too_many_lines_kind = 13

abbrev pub allocation_refused_kind : ℕ
allocation_refused_kind = 14

-- what is added to the kind of a fault that a line of a second file, the tailor, has
abbrev pub tailor_kinds : ℕ
tailor_kinds = 60
