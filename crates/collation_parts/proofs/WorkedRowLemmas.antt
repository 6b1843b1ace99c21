-- The worked rows, proved by computing both sides.
use Rattle.std.specs.Char.{encode_utf8}
use Rattle.std.specs.Str.{chars, is_utf8}
use Rattle.std.specs.Str.Lossy.{utf8_valid_len, utf8_error_len}
use Rattle.std.proofs.Common.{refl}
use Rattle.unicode_normalization.specs.StreamSafe.{has_short_runs}
use Rattle.unicode_normalization.proofs.Computing.{unicode_normalization}
use Rattle.nfd_points.specs.Points.{byte_len, points_at, points_from, is_reorderable, is_in_order, sink, ordered}
use Rattle.nfd_points.specs.PointFaults.{run_after, fault_of_code_point, fault_from}
use Rattle.collation_parts.specs.WorkedRows.{SinglePartsOfLetters, SinglePartsAtBadByte}

-- `unfolding rows` lets `refl` compute a row
unfoldable rows : Unit {0}
unfolding unicode_normalization has_short_runs byte_len points_at points_from is_reorderable is_in_order sink ordered run_after fault_of_code_point fault_from chars encode_utf8 is_utf8 utf8_valid_len utf8_error_len
rows = tt

pub parts_of_letters_lem : SinglePartsOfLetters
unfolding rows
parts_of_letters_lem = record { first = refl; second = refl; both = refl; backwards = refl; behind = refl }

pub parts_at_bad_byte_lem : SinglePartsAtBadByte
unfolding rows
parts_at_bad_byte_lem = record { before = refl; with = refl; at = refl; together = refl }
