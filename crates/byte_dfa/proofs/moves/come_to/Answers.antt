use Rattle.std.proofs.Common.{inr, refl}
use Rattle.byte_dfa.proofs.moves.come_to.Goals as goal

pub returns-then-row-eq1-clause-accepted : goal.returns-then-row-eq1-clause-accepted
returns-then-row-eq1-clause-accepted c = inr (refl, refl, c.if-row-eq1.true)

pub returns-then-row-eq1-clause-noted : goal.returns-then-row-eq1-clause-noted
returns-then-row-eq1-clause-noted c = λ _. (refl, refl)
