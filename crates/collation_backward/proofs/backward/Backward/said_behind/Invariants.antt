use Rattle.std.proofs.Common.{◌≡◌, ◌<◌, ◌-◌, ℕ, List, Ok, Err}
use Rattle.std.specs.Prelude.{IfErr}
use Rattle.collation_matches.specs.Sought.{IsCompiledFrom}
use Rattle.collation_backward.specs.Backward.{IsToldFrom}
use Rattle.collation_backward.specs.Going.{sought_by}
use Rattle.collation_backward.proofs.backward.Backward.said_behind.Given as goal

-- what the rest from some place on says, and a fault that it says stands before the offset
abbrev pub invariant-loop-said : goal.invariant-loop-said
invariant-loop-said g l = record {
  told : (p : List ℕ) → IsCompiledFrom (sought_by l.fn.self) p → IsToldFrom (sought_by l.fn.self) p l.text l.from l.at l.said;
  before : IfErr l.said (λ f. f.offset < l.at);
  same : sought_by l.self ≡ sought_by l.fn.self;
}

abbrev pub decreases-loop-said : goal.decreases-loop-said
decreases-loop-said g l = elim l.said [ Ok found ↦ 0 | Err f ↦ l.at - f.offset ]
