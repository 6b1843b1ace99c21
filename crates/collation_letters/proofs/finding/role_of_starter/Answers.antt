use Rattle.std.proofs.Common.{◌∙◌, refl, sym}
use Rattle.collation_letters.proofs.finding.role_of_starter.Goals as goal

pub returns-then-is_silent-clause-role : goal.returns-then-is_silent-clause-role
returns-then-is_silent-clause-role c = λ known.
    let plain = c.says_nothing.ensures c.if-says_nothing.true in
    let after = c.is_silent.ensures c.if-is_silent.true in
    (refl, ((plain.0, (plain.1.0, refl)), λ it is. let silent = after it is in (silent.0, (silent.1.0, silent.1.1 ∙ sym plain.1.1))))
