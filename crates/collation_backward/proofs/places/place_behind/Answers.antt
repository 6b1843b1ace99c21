use Rattle.std.proofs.Common.{arith}
use Rattle.collation_backward.proofs.places.place_behind.Goals as goal

pub returns-then-place-at-clause-nearest : goal.returns-then-place-at-clause-nearest
returns-then-place-at-clause-nearest g c = λ place safe behind before. c.in-Some.ensures.nearest place (omega (arith, behind)) safe

-- a place behind the offset is none
pub returns-else-place-at-clause-nearest : goal.returns-else-place-at-clause-nearest
returns-else-place-at-clause-nearest g c = λ place safe behind before.
    let found = c.in-Some.ensures.nearest place (omega (arith, behind)) safe in
    let late = c.if-place-at.false in
    absurd (omega (arith, found, late, before))

pub returns-in-None-clause-nearest : goal.returns-in-None-clause-nearest
returns-in-None-clause-nearest g c = λ place safe behind before. absurd (c.in-None.ensures.nearest place (omega (arith, behind)) safe)
