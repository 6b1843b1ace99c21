use Rattle.std.specs.List.{FoldsTo}
use Rattle.std.proofs.Common.{◌-◌, ℕ, List, length}
use Rattle.collation_finder.specs.Caches.{IsCacheRight}
use Rattle.collation_finder.specs.LetterRun.{HasComeTo, IsFollowed}
use Rattle.collation_walk.specs.Walks.{KeepsWalk}
use Rattle.collation_finder.proofs.letter_loop.walk_letters.Given as goal

-- the characters so far were walked over or passed by, and the sink was called for the ranges so far
abbrev pub invariant-runs : goal.invariant-runs
invariant-runs g l = record {
  callable : goal.F-IsAlwaysCallable g l.sink;
  right : IsCacheRight (g.W.Weights.table l.query.table.now) l.query.pattern.now l.cache;
  keeps : KeepsWalk l.query.pattern.now l.fn.matcher.walk l.matcher.walk;
  followed : IsFollowed (g.W.Weights.table l.query.table.now) l.query.pattern.now l.front.piece.now l.here;
  come : (ranges : List (ℕ × ℕ)) × FoldsTo (λ f range t. goal.F-step g f range.0 range.1 tt t) l.fn.sink ranges l.sink
      × HasComeTo (g.W.Weights.table l.query.table.now) l.query.pattern.now l.front.piece.now l.front.offset l.front.reach l.fn.from.next l.fn.matcher l.matcher l.here.len l.here.next ranges;
}

abbrev pub decreases-runs : goal.decreases-runs
decreases-runs g l = length l.front.piece.now - l.here.len
