-- The worked rows, proved by computing both sides.
use Rattle.std.specs.Char.{encode_utf8}
use Rattle.std.specs.Str.{chars, is_utf8}
use Rattle.std.specs.Str.Lossy.{utf8_valid_len, utf8_error_len}
use Rattle.std.proofs.Common.{refl}
use Rattle.unicode_normalization.specs.StreamSafe.{has_short_runs}
use Rattle.unicode_normalization.proofs.Computing.{unicode_normalization}
use Rattle.nfd_points.specs.Points.{byte_len, points_at, points_from, is_reorderable, is_in_order, sink, ordered}
use Rattle.nfd_points.specs.PointFaults.{run_after, fault_of_code_point, fault_from}
use Rattle.collation_matches.specs.WorkedRows.{OverlappingLetters, ComposedPrimary, ComposedSecondary, DecomposedPrimary, DecomposedSecondary, InsideContraction, RestAmidContraction, HyphenShifted, HyphenKept, SoftHyphen, Discontiguous, DiscontiguousSecondary, BlockedAccent, BlockedBase, AccentBefore, BadByte, IncompleteSequence, ChainOfLetters, ChainAtBadByte, PartsOfLetters, PartsAtBadByte}

-- `unfolding rows` lets `refl` compute a row
unfoldable rows : Unit {0}
unfolding unicode_normalization has_short_runs byte_len points_at points_from is_reorderable is_in_order sink ordered run_after fault_of_code_point fault_from chars encode_utf8 is_utf8 utf8_valid_len utf8_error_len
rows = tt

pub overlapping_letters_lem : OverlappingLetters
unfolding rows
overlapping_letters_lem = refl

pub composed_primary_lem : ComposedPrimary
unfolding rows
composed_primary_lem = refl

pub composed_secondary_lem : ComposedSecondary
unfolding rows
composed_secondary_lem = refl

pub decomposed_primary_lem : DecomposedPrimary
unfolding rows
decomposed_primary_lem = refl

pub decomposed_secondary_lem : DecomposedSecondary
unfolding rows
decomposed_secondary_lem = refl

pub inside_contraction_lem : InsideContraction
unfolding rows
inside_contraction_lem = refl

pub rest_amid_contraction_lem : RestAmidContraction
unfolding rows
rest_amid_contraction_lem = (refl, refl)

pub hyphen_shifted_lem : HyphenShifted
unfolding rows
hyphen_shifted_lem = refl

pub hyphen_kept_lem : HyphenKept
unfolding rows
hyphen_kept_lem = refl

pub soft_hyphen_lem : SoftHyphen
unfolding rows
soft_hyphen_lem = refl

pub discontiguous_lem : Discontiguous
unfolding rows
discontiguous_lem = refl

pub discontiguous_secondary_lem : DiscontiguousSecondary
unfolding rows
discontiguous_secondary_lem = refl

pub blocked_accent_lem : BlockedAccent
unfolding rows
blocked_accent_lem = refl

pub blocked_base_lem : BlockedBase
unfolding rows
blocked_base_lem = refl

pub accent_before_lem : AccentBefore
unfolding rows
accent_before_lem = refl

pub bad_byte_lem : BadByte
unfolding rows
bad_byte_lem = refl

pub incomplete_sequence_lem : IncompleteSequence
unfolding rows
incomplete_sequence_lem = refl

pub chain_of_letters_lem : ChainOfLetters
unfolding rows
chain_of_letters_lem = refl

pub chain_at_bad_byte_lem : ChainAtBadByte
unfolding rows
chain_at_bad_byte_lem = refl

pub parts_of_letters_lem : PartsOfLetters
unfolding rows
parts_of_letters_lem = refl

pub parts_at_bad_byte_lem : PartsAtBadByte
unfolding rows
parts_at_bad_byte_lem = refl
