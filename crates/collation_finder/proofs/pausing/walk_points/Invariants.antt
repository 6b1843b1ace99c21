use Rattle.std.specs.List.{FoldsTo}
use Rattle.std.proofs.Common.{◌-◌, ◌≤◌, ℕ, List, length, take}
use Rattle.collation_elements.specs.Units.{units}
use Rattle.collation_letters.specs.Store.{AreLetters}
use Rattle.collation_walk.specs.Walked.{HasWalkedOn}
use Rattle.collation_walk.specs.Walks.{KeepsWalk}
use Rattle.collation_finder.specs.TakenAtOnce.{AreClosedHere, AreDecomposed}
use Rattle.collation_finder.proofs.pausing.walk_points.Given as goal

-- the points so far were walked over, and the sink was called for the ranges so far
abbrev pub invariant-points : goal.invariant-points
invariant-points g l = record {
  within : l.len ≤ length l.window.points;
  callable : goal.F-IsAlwaysCallable g l.sink;
  right : AreLetters (g.W.Weights.table l.query.table.now) l.query.pattern.now l.letters;
  keeps : KeepsWalk l.query.pattern.now l.fn.matcher.walk l.matcher.walk;
  closed : AreDecomposed l.window.points → AreClosedHere (g.W.Weights.table l.query.table.now) (take l.len l.window.points);
  walked : (ranges : List (ℕ × ℕ)) × FoldsTo (λ f range t. goal.F-step g f range.0 range.1 tt t) l.fn.sink ranges l.sink
      × (AreDecomposed l.window.points → HasWalkedOn (g.W.Weights.table l.query.table.now) l.query.pattern.now l.fn.matcher l.matcher (units (g.W.Weights.table l.query.table.now) (take l.len l.window.points)) ranges);
}

abbrev pub decreases-points : goal.decreases-points
decreases-points g l = length l.window.points - l.len
