use Rattle.std.proofs.Common.{◌≡◌, take}
use Rattle.collation_backward.specs.Backward.{last_up_to}
use Rattle.collation_backward.proofs.reading.last_of_found.Given as goal

-- the last one of those so far
abbrev pub invariant-loop-range : goal.invariant-loop-range
invariant-loop-range l = l.last ≡ last_up_to l.to (take l.range-index l.ranges)
