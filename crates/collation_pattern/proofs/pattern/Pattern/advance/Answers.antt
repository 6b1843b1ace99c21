use Rattle.std.proofs.Common.{◌≤◌, ◌∷◌, ◌++◌, List, [], length, take, ap, sym, subst, ◌∙◌}
use Rattle.collation_elements.specs.declared.keys.Key.{Key}
use Rattle.collation_pattern.specs.Compiled.{Compiled}
use Rattle.collation_pattern.specs.Border.{border}
use Rattle.collation_pattern.proofs.BorderLemmas.{border-more, border-within}
use Rattle.collation_pattern.proofs.pattern.Pattern.advance.Goals as goal

pub returns-clause-border : goal.returns-clause-border
returns-clause-border c = λ ks before.
    let keys = c.args.self.now.keys in
    let same = c.deref.ensures.value ∙ ap (λ (p : Compiled). p.keys) c.self.view_is in
    c.state_after.ensures
    ∙ ap (λ (l : List Key). border l (take c.args.state l ++ c.args.key.now ∷ [])) same
    ∙ ap (λ n. border keys (take n keys ++ c.args.key.now ∷ [])) (sym before)
    ∙ border-more keys ks c.args.key.now

pub returns-clause-within : goal.returns-clause-within
returns-clause-within c =
    let keys = c.args.self.now.keys in
    let same = c.deref.ensures.value ∙ ap (λ (p : Compiled). p.keys) c.self.view_is in
    let value = c.state_after.ensures ∙ ap (λ (l : List Key). border l (take c.args.state l ++ c.args.key.now ∷ [])) same in
    subst (λ n. n ≤ length keys) (sym value) (border-within keys (take c.args.state keys ++ c.args.key.now ∷ []))
