use Rattle.std.proofs.Common.{ℕ, ◌<◌, ◌≤◌}
use Rattle.collation_safe.specs.Safe.{IsSafeOffset}
use Rattle.collation_safe.proofs.offsets.next_safe.Given as goal

-- no offset passed by is safe
abbrev pub invariant-loop-at : goal.invariant-loop-at
invariant-loop-at g l =
    let T = g.W.Weights.table l.fn.table in (at : ℕ) → l.fn.from ≤ at → at < l.at → IsSafeOffset T l.fn.bytes at → ⊥
