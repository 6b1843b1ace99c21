use Rattle.std.proofs.Common.{◌∙◌, sym}
use Rattle.std.proofs.lemmas.Bool.{false≢true}
use Rattle.collation_letters.proofs.finding.role_of.Goals as goal

pub returns-then-not-is_steps-clause-role : goal.returns-then-not-is_steps-clause-role
returns-then-not-is_steps-clause-role c = λ known.
    let h = c.role_of_starter-role.ensures.role known in
    ((λ no. sym c.begins_with_starter.ensures ∙ c.if-begins_with_starter.true), ((λ yes. absurd (false≢true (sym h.0 ∙ yes))), h.1))

pub returns-then-points-eq1-clause-role : goal.returns-then-points-eq1-clause-role
returns-then-points-eq1-clause-role c = λ known.
    let h = c.role_of_mark.ensures.role known in
    ((λ no. absurd (false≢true (sym no ∙ h.0))), ((λ yes. c.if-points-eq1.true), h.1))
