use Rattle.std.proofs.Common.{length}
use Rattle.std.specs.List.{FoldsTo}
use Rattle.collation_walk.proofs.handing_out.hand_out.Given as goal

-- the calls at the ranges that are left end where the calls at all of them end
abbrev pub invariant-loop-range : goal.invariant-loop-range
invariant-loop-range g l =
    goal.F-IsAlwaysCallable g l.sink
    × ((last : _) → FoldsTo (λ f range t. goal.F-step g f range.0 range.1 tt t) l.sink l.rest last → FoldsTo (λ f range t. goal.F-step g f range.0 range.1 tt t) l.fn.sink l.fn.ranges last)

abbrev pub decreases-loop-range : goal.decreases-loop-range
decreases-loop-range g l = length l.rest
