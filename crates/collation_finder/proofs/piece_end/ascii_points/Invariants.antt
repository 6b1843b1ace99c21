use Rattle.std.specs.Str.{IsAscii}
use Rattle.std.proofs.Common.{◌≡◌, ◌≤◌, ◌-◌, length, take, true}
use Rattle.std.specs.List.{All}
use Rattle.unicode_normalization.specs.StreamSafe.{has_short_runs}
use Rattle.nfd_points.specs.Points.{points_from}
use Rattle.nfd_points.specs.Reordering.{IsSoundPoint, code_points, is_closed}
use Rattle.collation_finder.proofs.piece_end.ascii_points.Given as goal

abbrev pub invariant-loop-len : goal.invariant-loop-len
invariant-loop-len l = record {
  within : l.len ≤ l.count;
  count : length l.points.items ≡ l.len;
  ascii : IsAscii (take l.len l.piece);
  points : l.points.items ≡ points_from l.offset (take l.len l.piece);
  closed : is_closed l.points.items ≡ true;
  sound : All IsSoundPoint l.points.items;
  short : has_short_runs 0 (code_points l.points.items) ≡ true;
}

abbrev pub decreases-loop-len : goal.decreases-loop-len
decreases-loop-len l = l.count - l.len
