use Rattle.std.proofs.Common.{arith, inl, inr}
use Rattle.std.proofs.lemmas.Bool.{cases_lt}
use Rattle.collation_safe.proofs.Standing.{stands-from, stands-within}
use Rattle.collation_safe.proofs.offsets.next_safe.Goals as goal

pub loop-at-init : goal.loop-at-init
loop-at-init g c = λ at from less. absurd (omega (arith, from, less))

-- an offset before the one found was passed by
pub returns-then-is_safe_at-clause-nearest : goal.returns-then-is_safe_at-clause-nearest
returns-then-is_safe_at-clause-nearest g c = λ at from safe.
    elim (cases_lt at c.loop-at.at) [
      | inl before ↦ absurd (c.loop-at.invariant at from before safe)
      | inr behind ↦ behind
    ]

-- none stands behind the end
pub returns-clause-nearest : goal.returns-clause-nearest
returns-clause-nearest g c = λ at from safe.
    let inside = stands-within c.args.bytes.now at safe.character (stands-from c.args.bytes.now at safe.character safe.whole) in
    let ended = c.loop-at-test.false in
    c.loop-at.invariant at from (omega (arith, inside, ended)) safe
