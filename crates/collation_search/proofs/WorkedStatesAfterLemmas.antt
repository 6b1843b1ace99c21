-- The worked states, proved by computing both sides.
use Rattle.std.specs.Char.{encode_utf8}
use Rattle.std.specs.Str.{chars, is_utf8}
use Rattle.std.specs.Str.Lossy.{utf8_valid_len, utf8_error_len}
use Rattle.std.proofs.Common.{refl}
use Rattle.unicode_normalization.specs.StreamSafe.{has_short_runs}
use Rattle.unicode_normalization.proofs.Computing.{unicode_normalization}
use Rattle.nfd_points.specs.Points.{byte_len, points_at, points_from, is_reorderable, is_in_order, sink, ordered}
use Rattle.nfd_points.specs.PointFaults.{run_after, fault_of_code_point, fault_from}
use Rattle.nfd_points.specs.Reordering.{up_to_last_starter}
use Rattle.collation_search.specs.WorkedStatesAfter.{StatesAfter, RangesInTime}

-- `unfolding computed` lets `refl` compute a state
unfoldable computed : Unit {0}
unfolding unicode_normalization has_short_runs byte_len points_at points_from is_reorderable is_in_order sink ordered up_to_last_starter run_after fault_of_code_point fault_from chars encode_utf8 is_utf8 utf8_valid_len utf8_error_len
computed = tt

pub states_after : StatesAfter
unfolding computed
states_after = record {
  begin = refl;
  a = refl;
  aa = refl;
  aaa = refl;
  in_character = refl;
  accent = refl;
  fault = refl;
  chain = refl;
  chain_fault = refl;
}

pub ranges_in_time : RangesInTime
unfolding computed
ranges_in_time = record { ab = refl; abb = refl }
