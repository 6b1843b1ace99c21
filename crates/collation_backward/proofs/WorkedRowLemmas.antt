-- The worked rows, proved by computing both sides.
use Rattle.std.specs.Char.{encode_utf8}
use Rattle.std.specs.Str.{chars, is_utf8}
use Rattle.std.specs.Str.Lossy.{utf8_valid_len, utf8_error_len}
use Rattle.std.proofs.Common.{refl}
use Rattle.unicode_normalization.specs.StreamSafe.{has_short_runs}
use Rattle.unicode_normalization.proofs.Computing.{unicode_normalization}
use Rattle.nfd_points.specs.Points.{byte_len, points_at, points_from, is_reorderable, is_in_order, sink, ordered}
use Rattle.nfd_points.specs.PointFaults.{run_after, fault_of_code_point, fault_from}
use Rattle.collation_backward.specs.WorkedRows.{AccentBehind, ContractionBehind, EndsOfLetters, FaultBehind, FaultInFront, HyphensBehind, LastRanges, RangesBeforeAFault, RangesBackward}

-- `unfolding rows` lets `refl` compute a row
unfoldable rows : Unit {0}
unfolding unicode_normalization has_short_runs byte_len points_at points_from is_reorderable is_in_order sink ordered run_after fault_of_code_point fault_from chars encode_utf8 is_utf8 utf8_valid_len utf8_error_len
rows = tt

pub last_ranges_lem : LastRanges
unfolding rows
last_ranges_lem = record { all = refl; two = refl; one = refl }

pub ranges_before_a_fault_lem : RangesBeforeAFault
unfolding rows
ranges_before_a_fault_lem = record { behind = refl; at = refl }

pub ranges_backward_lem : RangesBackward
unfolding rows
ranges_backward_lem = refl

pub ends_of_letters_lem : EndsOfLetters
unfolding rows
ends_of_letters_lem = record { overlapping = refl; earlier = refl; empty = refl }

pub accent_behind_lem : AccentBehind
unfolding rows
accent_behind_lem = record { one = refl; two = refl }

pub hyphens_behind_lem : HyphensBehind
unfolding rows
hyphens_behind_lem = record { shifted = refl; kept = refl; soft = refl }

pub contraction_behind_lem : ContractionBehind
unfolding rows
contraction_behind_lem = record { first = refl; second = refl; both = refl }

pub fault_behind_lem : FaultBehind
unfolding rows
fault_behind_lem = record { bad = refl; cut = refl }

pub fault_in_front_lem : FaultInFront
unfolding rows
fault_in_front_lem = record { match = refl; more = refl; few = refl; last = refl; unsafe_letter = refl }
