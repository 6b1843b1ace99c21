use Rattle.std.specs.List.{All}
use Rattle.std.specs.Str.{chars, IsUtf8}
use Rattle.std.proofs.Common.{◌≡◌, true, take}
use Rattle.nfd_points.specs.Points.{points_from, is_starter}
use Rattle.collation_finder.specs.TakenAtOnce.{AreDecomposed}
use Rattle.collation_finder.proofs.finder.Finder.held_text.Given as goal

-- the points so far are those of the characters so far
abbrev pub invariant-loop-i : goal.invariant-loop-i
invariant-loop-i l = record {
  text : IsUtf8 l.text.items;
  starters : All (λ p. is_starter p ≡ true) (take l.i l.self.window.points);
  points : AreDecomposed l.self.window.points → take l.i l.self.window.points ≡ points_from l.start (chars l.text.items);
}
