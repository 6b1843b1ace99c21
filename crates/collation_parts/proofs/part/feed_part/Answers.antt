-- The sink is called for the ranges that begin in the part.
use Rattle.std.proofs.Common.{rules, ◌≡◌, ◌++◌, ◌∷◌, [], refl, sym, subst}
use Rattle.std.proofs.lemmas.Fn.{chained_keeps}
use Rattle.std.specs.List.{FoldsTo}
use denote.Param.Always.{mut_by}
use Rattle.collation_parts.specs.declared.part.Part.{Part}
use Rattle.collation_parts.specs.Handing.{handed_on}
use Rattle.collation_parts.proofs.Calls.{folded}
use Rattle.collation_parts.proofs.part.feed_part.Goals as goal

pub feed_with-requires : goal.feed_with-requires
feed_with-requires g c =
    mut_by _ (λ s. goal.F-IsAlwaysCallable g s.1.now) (λ s a i. search rules) (λ s a r t i e. search rules) _ c.requires

-- the calls leave the reference to what it was to, so what the sink holds at the end is what it is then
pub returns-clause-fed : goal.returns-clause-fed
returns-clause-fed g c =
    let fed = c.feed_with.ensures.fed in
    let from = c.args.part.from in
    let len = c.args.part.len in
    let sink = c.sink-1.given.1 (chained_keeps _ (λ ys s. c.feed_with-arg-3-1.given ≡ s.1.ghost_name) (λ ys q x v i k. search rules) fed.0 _ _ refl fed.1) in
    let here = chained_keeps _ (λ ys s. (s.0.now ≡ c.args.part) × FoldsTo (λ f range t. goal.F-step g f range.0 range.1 tt t) c.args.sink.now (handed_on from len ys) s.1.now)
    (λ ys q x v i k.
    let same : v.0.now ≡ c.args.part = search rules in
    let one : FoldsTo (λ f range t. goal.F-step g f range.0 range.1 tt t) q.1.now (handed_on q.0.now.from q.0.now.len (x ∷ [])) v.1.now = search rules in (
      same,
      folded _ c.args.sink.now q.1.now v.1.now from len ys (x ∷ []) (ys ++ x ∷ []) i.1
          (subst (λ (part : Part). FoldsTo (λ f range t. goal.F-step g f range.0 range.1 tt t) q.1.now (handed_on part.from part.len (x ∷ [])) v.1.now) i.0 one) refl,
    ))
    fed.0 _ _ (refl, refl) fed.1 in (
      fed.0,
      fed.2,
      subst (λ f. FoldsTo (λ f range t. goal.F-step g f range.0 range.1 tt t) c.args.sink.now (handed_on from len fed.0) f) (sym sink) here.1,
    )

pub returns-clause-callable : goal.returns-clause-callable
returns-clause-callable g c =
    let fed = c.feed_with.ensures.fed in
    let sink = c.sink-1.given.1 (chained_keeps _ (λ ys s. c.feed_with-arg-3-1.given ≡ s.1.ghost_name) (λ ys q x v i k. search rules) fed.0 _ _ refl fed.1) in
    subst (λ f. goal.F-IsAlwaysCallable g f) (sym sink)
    (chained_keeps _ (λ ys s. goal.F-IsAlwaysCallable g s.1.now) (λ ys q x v i k. search rules) fed.0 _ _ c.requires fed.1)
