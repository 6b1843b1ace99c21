use Rattle.std.proofs.Common.{arith, inl, inr}
use Rattle.std.proofs.lemmas.Bool.{cases_lt}
use Rattle.collation_safe.proofs.Standing.{stands-from, stands-within}
use Rattle.collation_safe.proofs.offsets.previous_safe.Goals as goal

-- none stands behind the end
pub loop-end-init : goal.loop-end-init
loop-end-init g c = (
  omega (arith, c.min-end.ensures),
  omega (arith, c.min-end.ensures),
  λ at before behind safe.
      let inside = stands-within c.args.bytes.now at safe.character (stands-from c.args.bytes.now at safe.character safe.whole) in
      absurd (omega (arith, c.min-end.ensures, before, behind, inside)),
)

-- an offset behind the one found was passed by
pub returns-then-is_safe_at-clause-nearest : goal.returns-then-is_safe_at-clause-nearest
returns-then-is_safe_at-clause-nearest g c = λ at before safe.
    elim (cases_lt at c.loop-end.end) [
      | inl less ↦ omega (arith, less)
      | inr behind ↦ absurd (c.loop-end.invariant.2 at before behind safe)
    ]

pub returns-clause-nearest : goal.returns-clause-nearest
returns-clause-nearest g c = λ at before safe.
    let ended = c.loop-end-test.false in
    c.loop-end.invariant.2 at before (omega (arith, ended)) safe
