use Rattle.std.specs.Prelude.{Ok}
use Rattle.std.specs.List.{FoldsTo}
use Rattle.std.proofs.Common.{ℕ, ◌-◌, ◌≤◌, List, length, take}
use Rattle.collation_search.specs.Feeding.{TakesPart}
use Rattle.collation_search.proofs.search.Search.feed_with.Given as goal

-- the bytes so far were taken, units cut early up to the reach at most, and the sink was called for the ranges so far
abbrev pub invariant-loop-at : goal.invariant-loop-at
invariant-loop-at g l = record {
  callable : goal.F-IsAlwaysCallable g l.sink;
  within : l.at ≤ length l.piece;
  taken : (found : List (ℕ × ℕ)) × FoldsTo (λ f range t. goal.F-step g f range.0 range.1 tt t) l.fn.sink found l.sink
      × TakesPart l.fn.self l.reach (take l.at l.piece) (Ok tt) found l.self;
}

abbrev pub decreases-loop-at : goal.decreases-loop-at
decreases-loop-at g l = length l.piece - l.at
