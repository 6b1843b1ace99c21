use Rattle.std.proofs.Common.{◌≡◌, true, ◌++◌, length, drop, All}
use Rattle.nfd_points.specs.Points.{points_at}
use Rattle.nfd_points.specs.Reordering.{IsSoundPoint}
use Rattle.nfd_points.proofs.character.points_of_parts.Given as goal

abbrev pub invariant-loop-part : goal.invariant-loop-part
invariant-loop-part l = record {
  made : l.points.items ++ points_at l.offset l.is_first (drop l.part-index l.parts) ≡ points_at l.offset true l.parts;
  len : length l.points.items ≡ l.part-index;
  sound : All IsSoundPoint l.points.items;
}
