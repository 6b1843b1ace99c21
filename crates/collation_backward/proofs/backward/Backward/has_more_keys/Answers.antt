use Rattle.std.proofs.Common.{◌≡◌, ◌∙◌, List, ℕ, None, drop, sym, ap, ap₂, subst}
use Rattle.std.proofs.lemmas.List.{drop_min}
use Rattle.collation_matches.specs.GoodPrefix.{fault}
use Rattle.collation_anchored.specs.Answers.{has_more_keys}
use Rattle.collation_backward.specs.Going.{sought_by}
use Rattle.collation_backward.proofs.backward.Backward.has_more_keys.Goals as goal

pub returns-clause-more : goal.returns-clause-more
returns-clause-more g c = λ good.
    let self = c.args.self.now in
    let text = c.args.text.now in
    let s = sought_by self in
    let rest : c.split_at.result.1.now ≡ drop c.args.place text = c.split_at.ensures.back ∙ ap (λ n. drop n text) c.min.ensures ∙ drop_min c.args.place text in
    c.has_more_keys.ensures.more (subst (λ (t : List ℕ). fault t ≡ None) (sym rest) good)
    ∙ ap (λ t. has_more_keys t self.anchored.pattern.now c.split_at.result.1.now) self.anchored_table
    ∙ ap (λ q. has_more_keys s.table q c.split_at.result.1.now) self.anchored_pattern
    ∙ ap (has_more_keys s.table s.pattern) rest
