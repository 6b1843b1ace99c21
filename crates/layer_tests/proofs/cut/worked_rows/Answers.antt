use Rattle.std.proofs.Common.{refl}
use Rattle.utf8_cut.specs.Characters.{computing}
use Rattle.layer_tests.proofs.cut.worked_rows.Goals as goal

pub returns : goal.returns
unfolding computing
returns c = record {
  empty = refl;
  empty_fault = refl;
  two_bytes = refl;
  not_continued = refl;
  surrogate = refl;
  overlong_two = refl;
  overlong_three = refl;
  overlong_four = refl;
  too_great = refl;
  above_a_byte = refl;
  incomplete_fault = refl;
  incomplete_is_utf8_prefix = refl;
  incomplete_is_not_ill_formed = refl;
  three_bytes_incomplete = refl;
  whole_is_not_incomplete = refl;
  least_and_greatest = refl;
  beside_surrogates = refl;
  past_three_bytes = refl;
  greatest = refl;
}
