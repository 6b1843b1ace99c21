-- `unfolding nfd_points` lets `refl` compute the points or the fault of a short text.
use Rattle.unicode_normalization.specs.StreamSafe.{has_short_runs}
use Rattle.unicode_normalization.proofs.Computing.{unicode_normalization}
use Rattle.nfd_points.specs.Points.{byte_len, points_at, points_from, is_reorderable, is_in_order, sink, ordered}
use Rattle.nfd_points.specs.PointFaults.{run_after, fault_of_code_point, fault_from}

unfoldable pub nfd_points : Unit {0}
unfolding unicode_normalization has_short_runs byte_len points_at points_from is_reorderable is_in_order sink ordered run_after fault_of_code_point fault_from
nfd_points = tt
