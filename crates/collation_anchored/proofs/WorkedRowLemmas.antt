-- The worked rows, proved by computing both sides.
use Rattle.std.specs.Char.{encode_utf8}
use Rattle.std.specs.Str.{chars, is_utf8}
use Rattle.std.specs.Str.Lossy.{utf8_valid_len, utf8_error_len}
use Rattle.std.proofs.Common.{refl}
use Rattle.unicode_normalization.specs.StreamSafe.{has_short_runs}
use Rattle.unicode_normalization.proofs.Computing.{unicode_normalization}
use Rattle.nfd_points.specs.Points.{byte_len, points_at, points_from, is_reorderable, is_in_order, sink, ordered}
use Rattle.nfd_points.specs.PointFaults.{run_after, fault_of_code_point, fault_from}
use Rattle.collation_anchored.specs.WorkedRows.{ResumeAtEachStrength, ComposedAndDecomposed, AccentInFront, ContractionAtTheEnds, HyphensAround, TooLongAndTooShort, AtAFault, ResumeBegins, AccentFirst, AccentNext, ContractionBegins, HyphensFirst, LongerAndShorter, HangulBegins, BeginsAtAFault}

-- `unfolding rows` lets `refl` compute a row
unfoldable rows : Unit {0}
unfolding unicode_normalization has_short_runs byte_len points_at points_from is_reorderable is_in_order sink ordered run_after fault_of_code_point fault_from chars encode_utf8 is_utf8 utf8_valid_len utf8_error_len
rows = tt

pub resume_at_each_strength_lem : ResumeAtEachStrength
unfolding rows
resume_at_each_strength_lem = record { one = refl; two = refl; three = refl }

pub composed_and_decomposed_lem : ComposedAndDecomposed
unfolding rows
composed_and_decomposed_lem = refl

pub accent_in_front_lem : AccentInFront
unfolding rows
accent_in_front_lem = record { one = refl; two = refl }

pub contraction_at_the_ends_lem : ContractionAtTheEnds
unfolding rows
contraction_at_the_ends_lem = record { front = refl; whole = refl }

pub hyphens_around_lem : HyphensAround
unfolding rows
hyphens_around_lem = record { shifted = refl; kept = refl }

pub too_long_and_too_short_lem : TooLongAndTooShort
unfolding rows
too_long_and_too_short_lem = record { longer = refl; shorter = refl; empty = refl }

pub at_a_fault_lem : AtAFault
unfolding rows
at_a_fault_lem = record { begun = refl; all = refl; apart = refl }

pub resume_begins_lem : ResumeBegins
unfolding rows
resume_begins_lem = record { one = refl; two = refl; three = refl; composed = refl }

pub accent_first_lem : AccentFirst
unfolding rows
accent_first_lem = record { one = refl; two = refl }

pub accent_next_lem : AccentNext
unfolding rows
accent_next_lem = record { one = refl; two = refl }

pub contraction_begins_lem : ContractionBegins
unfolding rows
contraction_begins_lem = record { amid = refl; behind = refl; apart = refl }

pub hyphens_first_lem : HyphensFirst
unfolding rows
hyphens_first_lem = record { shifted = refl; kept = refl }

pub longer_and_shorter_lem : LongerAndShorter
unfolding rows
longer_and_shorter_lem = record { longer = refl; shorter = refl; later = refl; empty = refl }

pub hangul_begins_lem : HangulBegins
unfolding rows
hangul_begins_lem = record { syllable = refl; jamo = refl }

pub begins_at_a_fault_lem : BeginsAtAFault
unfolding rows
begins_at_a_fault_lem = record { begun = refl; all = refl; before = refl; ignorable = refl; apart = refl }
