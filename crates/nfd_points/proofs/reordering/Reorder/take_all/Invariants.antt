use Rattle.std.proofs.Common.{◌≡◌, ◌+◌, true, List, ◌++◌, length, drop, All}
use Rattle.unicode_normalization.specs.StreamSafe.{has_short_runs}
use Rattle.nfd_points.specs.declared.points.Point.{Point}
use Rattle.nfd_points.specs.Points.{points_at, ordered}
use Rattle.nfd_points.specs.PointFaults.{run_after}
use Rattle.nfd_points.specs.Reordering.{IsSoundPoint, IsHeld, is_closed}
use Rattle.nfd_points.proofs.reordering.Reorder.take_all.Given as goal

abbrev pub invariant-loop-part : goal.invariant-loop-part
invariant-loop-part l = record {
  moved : (rest : List Point) → l.fn.out.items ++ ordered (l.fn.self.held ++ (points_at l.offset true l.parts ++ rest)) ≡ l.out.items ++ ordered (l.self.held ++ (points_at l.offset l.is_first (drop l.part-index l.parts) ++ rest));
  closed : is_closed l.fn.out.items ≡ true → is_closed l.out.items ≡ true;
  sound : All IsSoundPoint l.fn.out.items → All IsSoundPoint l.out.items;
  held : IsHeld l.self.held;
  len : length l.out.items + length l.self.held ≡ length l.fn.out.items + length l.fn.self.held + l.part-index;
  short : has_short_runs (length l.self.held) (drop l.part-index l.parts) ≡ true;
  run : run_after (length l.self.held) (drop l.part-index l.parts) ≡ run_after (length l.fn.self.held) l.parts;
}
