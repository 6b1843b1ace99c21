use Rattle.std.proofs.Common.{◌≡◌, Ok, sym, subst, inr}
use Rattle.std.specs.Prelude.{IfErr}
use Rattle.collation_matches.specs.Sought.{Sought, IsCompiledFrom, answer_to}
use Rattle.collation_backward.specs.Backward.{last_up_to, IsNothingBehind, IsToldBefore}
use Rattle.collation_backward.proofs.backward.last_before.Goals as goal

pub returns-clause-good : goal.returns-clause-good
returns-clause-good g c = λ p compiled few clean.
    let same = c.in-Ok.ensures.sought in
    inr (subst (λ (s : Sought). c.last_before.result ≡ Ok (last_up_to c.args.at (answer_to s p c.args.text.now).ranges)) same
    (c.last_before.ensures.good p (subst (λ (s : Sought). IsCompiledFrom s p) (sym same) compiled) few clean))

pub returns-clause-told : goal.returns-clause-told
returns-clause-told g c = λ p compiled.
    let same = c.in-Ok.ensures.sought in
    inr (subst (λ (s : Sought). IsToldBefore s p c.args.text.now c.args.at c.last_before.result) same
    (c.last_before.ensures.told p (subst (λ (s : Sought). IsCompiledFrom s p) (sym same) compiled)))

pub returns-clause-behind : goal.returns-clause-behind
returns-clause-behind g c = λ p compiled few.
    let same = c.in-Ok.ensures.sought in
    inr (subst (λ (s : Sought). IfErr c.last_before.result (IsNothingBehind s p c.args.text.now c.args.at)) same
    (c.last_before.ensures.behind p (subst (λ (s : Sought). IsCompiledFrom s p) (sym same) compiled) few))
