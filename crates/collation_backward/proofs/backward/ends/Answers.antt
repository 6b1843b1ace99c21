use Rattle.std.proofs.Common.{◌≡◌, Ok, sym, subst, inr}
use Rattle.collation_matches.specs.Sought.{Sought, IsCompiledFrom}
use Rattle.collation_anchored.specs.Anchored.{ends as ends_of}
use Rattle.collation_backward.specs.Ending.{ends_answer}
use Rattle.collation_backward.proofs.backward.ends.Goals as goal

pub returns-clause-good : goal.returns-clause-good
returns-clause-good g c = λ p compiled none.
    let same = c.in-Ok.ensures.sought in
    inr (subst (λ (s : Sought). c.ends.result ≡ Ok (ends_of s.table s.pattern.strength s.pattern.variable p c.args.text.now)) same
    (c.ends.ensures.good p (subst (λ (s : Sought). IsCompiledFrom s p) (sym same) compiled) none))

pub returns-clause-answer : goal.returns-clause-answer
returns-clause-answer g c = λ p compiled few.
    let same = c.in-Ok.ensures.sought in
    inr (subst (λ (s : Sought). c.ends.result ≡ ends_answer s.table s.pattern p c.args.text.now) same
    (c.ends.ensures.answer p (subst (λ (s : Sought). IsCompiledFrom s p) (sym same) compiled) few))
