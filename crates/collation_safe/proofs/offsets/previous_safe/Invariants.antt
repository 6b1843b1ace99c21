use Rattle.std.proofs.Common.{ℕ, ◌<◌, ◌≤◌, length}
use Rattle.collation_safe.specs.Safe.{IsSafeOffset}
use Rattle.collation_safe.proofs.offsets.previous_safe.Given as goal

-- no offset passed by is safe
abbrev pub invariant-loop-end : goal.invariant-loop-end
invariant-loop-end g l =
    let T = g.W.Weights.table l.fn.table in
    (l.end ≤ l.fn.before) × (l.end ≤ length l.fn.bytes) × ((at : ℕ) → at < l.fn.before → l.end ≤ at → IsSafeOffset T l.fn.bytes at → ⊥)

abbrev pub decreases-loop-end : goal.decreases-loop-end
decreases-loop-end g l = l.end
