use Rattle.std.proofs.Common.{◌≡◌, ◌<◌, ◌-◌, ℕ, List, length}
use Rattle.collation_matches.specs.Sought.{IsCompiledFrom}
use Rattle.collation_backward.specs.Backward.{IsFaultFrom}
use Rattle.collation_backward.specs.Going.{sought_by}
use Rattle.collation_backward.proofs.backward.Backward.start_behind.Given as goal

-- the fault is that of the rest from some place on
abbrev pub invariant-loop-next : goal.invariant-loop-next
invariant-loop-next g l = record {
  from : (p : List ℕ) → IsCompiledFrom (sought_by l.fn.self) p → IsFaultFrom (sought_by l.fn.self).table l.text l.fn.first → IsFaultFrom (sought_by l.fn.self).table l.text l.fault;
  before : l.fault.offset < length l.text;
  same : sought_by l.self ≡ sought_by l.fn.self;
}

abbrev pub decreases-loop-next : goal.decreases-loop-next
decreases-loop-next g l = length l.text - l.fault.offset
