-- Worked tables, proved by computing both sides.
use Rattle.std.proofs.Common.{refl}
use Rattle.unicode_normalization.proofs.Computing.{unicode_normalization}
use Rattle.collation_table.specs.Spelling.{the_spelling}
use Rattle.collation_table.specs.WorkedTables.{LineFaults, RowFaults, RangeFaults, TableFaults, AcceptedTables, TailoredTables, TailoredFaults, ImplicitWeights, LongestPrefixes, Classes}

pub line_faults-hold : LineFaults
unfolding the_spelling unicode_normalization
line_faults-hold = record {
  short_code_point = refl;
  lower_case_weight = refl;
  beyond_unicode = refl;
  smallest_kind = refl;
  first_line_at_fault = refl;
  line_before_table = refl;
}

pub row_faults-hold : RowFaults
unfolding the_spelling unicode_normalization
row_faults-hold = record {
  mapped_twice_by_value = refl;
  string_of_65 = refl;
  row_of_129 = refl;
  primary_alone = refl;
  primary_skips_a_level = refl;
  variable_with_no_primary = refl;
  follower_alone = refl;
  lead_alone = refl;
  lead_without_follower = refl;
  two_followers = refl;
  variable_lead = refl;
}

pub range_faults-hold : RangeFaults
unfolding the_spelling unicode_normalization
range_faults-hold = record {
  base_of_no_range = refl;
  range_backwards = refl;
  shared_code_point = refl;
  range_too_far = refl;
}

pub table_faults-hold : TableFaults
unfolding the_spelling unicode_normalization
table_faults-hold = record {
  empty_file = refl;
  comment_only = refl;
  range_alone = refl;
  low_secondary = refl;
  low_tertiary = refl;
  between_variables = refl;
  prefix_that_is_not_mapped = refl;
}

pub accepted_tables-hold : AcceptedTables
unfolding the_spelling unicode_normalization
accepted_tables-hold = record {
  letters_and_accents = record { accepted = refl; longest = refl; largest = refl };
  lead_and_follower = record { accepted = refl; longest = refl; largest = refl };
  blanks_and_comment = record { accepted = refl; longest = refl; largest = refl };
  range_just_near = record { accepted = refl; longest = refl; largest = refl };
  string_of_64 = record { accepted = refl; longest = refl; largest = refl };
  row_of_128 = record { accepted = refl; longest = refl; largest = refl };
}

pub tailored_tables-hold : TailoredTables
unfolding the_spelling unicode_normalization
tailored_tables-hold = record {
  comment_only = record { accepted = refl; longest = refl; largest = refl };
  row_added = record { accepted = refl; longest = refl; largest = refl };
  row_replaced = refl;
  replaced_row_does_not_count = record { accepted = refl; longest = refl; largest = refl };
  prefix_of_the_tailor = record { accepted = refl; longest = refl; largest = refl };
  ranges_in_order = refl;
}

pub tailored_faults-hold : TailoredFaults
unfolding the_spelling unicode_normalization
tailored_faults-hold = record {
  between_variables = refl;
  low_secondary = refl;
  prefix_that_is_not_mapped = refl;
  short_code_point = refl;
  mapped_twice = refl;
  string_of_65 = refl;
  lead_alone = refl;
  range_of_the_base_shared = refl;
  base_first = refl;
  no_entry = refl;
}

pub implicit_weights-hold : ImplicitWeights
unfolding the_spelling unicode_normalization
implicit_weights-hold = record {
  core_ideograph = refl;
  compatibility_ideograph = refl;
  extension_a = refl;
  extension_b = refl;
  hangul = refl;
  private_use = refl;
  last_code_point = refl;
  tangut = refl;
  tangut_supplement = refl;
}

pub longest_prefixes-hold : LongestPrefixes
unfolding the_spelling unicode_normalization
longest_prefixes-hold = record {
  contraction = refl;
  no_contraction = refl;
  no_prefix = refl;
}

pub classes-hold : Classes
unfolding the_spelling unicode_normalization
classes-hold = record {
  acute = refl;
  decomposed_accent = refl;
  surrogate = refl;
}
