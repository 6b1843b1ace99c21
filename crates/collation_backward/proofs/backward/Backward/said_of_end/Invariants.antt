use Rattle.std.proofs.Common.{◌≡◌, ◌⊎◌, ◌<◌, ◌≤◌, ℕ, List, length}
use Rattle.std.specs.Prelude.{IfErr}
use Rattle.collation_matches.specs.Offsets.{answer_from}
use Rattle.collation_matches.specs.Sought.{IsCompiledFrom}
use Rattle.collation_safe.specs.Safe.{IsSafeOffset}
use Rattle.collation_backward.specs.Backward.{said_up_to}
use Rattle.collation_backward.specs.Going.{sought_by}
use Rattle.collation_backward.proofs.backward.Backward.said_of_end.Given as goal

-- what the rest from the place on says
abbrev pub invariant-loop-place : goal.invariant-loop-place
invariant-loop-place g l = record {
  begins : (l.place ≡ 0) ⊎ (IsSafeOffset (sought_by l.fn.self).table l.text l.place × (l.place < length l.text));
  says : (p : List ℕ) → IsCompiledFrom (sought_by l.fn.self) p → l.said ≡ said_up_to (length l.text) (answer_from (sought_by l.fn.self) p l.text l.place);
  before : IfErr l.said (λ f. f.offset < length l.text);
  same : sought_by l.self ≡ sought_by l.fn.self;
}

abbrev pub decreases-loop-place : goal.decreases-loop-place
decreases-loop-place g l = l.place
