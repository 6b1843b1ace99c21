use Rattle.std.specs.Prelude.{Ok}
use Rattle.std.proofs.Common.{◌-◌, ◌≤◌, [], length, take}
use Rattle.collation_search.specs.Feeding.{TakesPart}
use Rattle.collation_search.proofs.search.Search.feed_first.Given as goal

-- the bytes so far were taken, units cut early up to the reach at most, and no range became known
abbrev pub invariant-parts : goal.invariant-parts
invariant-parts g l = record {
  within : l.at ≤ length l.piece;
  taken : TakesPart l.fn.self l.reach (take l.at l.piece) (Ok tt) [] l.self;
}

abbrev pub decreases-parts : goal.decreases-parts
decreases-parts g l = length l.piece - l.at
