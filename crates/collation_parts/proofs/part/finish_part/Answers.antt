-- The sink is called for the last ranges that begin in the part.
use Rattle.std.proofs.Common.{rules, ◌≡◌, ◌++◌, ◌∷◌, [], refl, sym, subst}
use Rattle.std.proofs.lemmas.Fn.{chained_keeps}
use Rattle.std.specs.List.{FoldsTo}
use denote.Param.Always.{mut_by}
use Rattle.collation_matches.specs.Sought.{answer_to}
use Rattle.collation_search.specs.Search.{sought}
use Rattle.collation_parts.specs.declared.part.Part.{Part}
use Rattle.collation_parts.specs.Handing.{handed_on}
use Rattle.collation_parts.proofs.Calls.{folded, finished}
use Rattle.collation_parts.proofs.part.finish_part.Goals as goal

pub hand_out-requires : goal.hand_out-requires
hand_out-requires g c =
    mut_by _ (λ s. goal.F-IsAlwaysCallable g s.1.now) (λ s a i. search rules) (λ s a r t i e. search rules) _ c.requires

-- the calls leave the reference to what it was to, so what the sink holds at the end is what it is then
pub returns-clause-ended : goal.returns-clause-ended
returns-clause-ended g c =
    let called = c.hand_out.ensures.called in
    let ended = c.finish_text-ended.ensures.ended in
    let ranges = c.as_slice.result.now in
    let from = c.args.part.from in
    let len = c.args.part.len in
    let sink = c.sink-1.given.1 (chained_keeps _ (λ ys s. c.hand_out-arg-1.given ≡ s.1.ghost_name) (λ ys q x v i k. search rules) ranges _ _ refl called) in
    let here = chained_keeps _ (λ ys s. (s.0.now ≡ c.args.part) × FoldsTo (λ f range t. goal.F-step g f range.0 range.1 tt t) c.args.sink.now (handed_on from len ys) s.1.now)
    (λ ys q x v i k.
    let same : v.0.now ≡ c.args.part = search rules in
    let one : FoldsTo (λ f range t. goal.F-step g f range.0 range.1 tt t) q.1.now (handed_on q.0.now.from q.0.now.len (x ∷ [])) v.1.now = search rules in (
      same,
      folded _ c.args.sink.now q.1.now v.1.now from len ys (x ∷ []) (ys ++ x ∷ []) i.1
          (subst (λ (part : Part). FoldsTo (λ f range t. goal.F-step g f range.0 range.1 tt t) q.1.now (handed_on part.from part.len (x ∷ [])) v.1.now) i.0 one) refl,
    ))
    ranges _ _ (refl, refl) called in (
      ranges,
      subst (λ f. FoldsTo (λ f range t. goal.F-step g f range.0 range.1 tt t) c.args.sink.now (handed_on from len ranges) f) (sym sink) here.1,
      λ p u handed compiled h.
          finished (answer_to (sought c.args.search.now) p u) c.finish_text-ended.result handed ranges c.finish_text-ended.new.found.items c.as_slice.ensures.value
          (ended.good p u handed compiled h) (ended.bad p u handed compiled h),
    )

pub returns-clause-callable : goal.returns-clause-callable
returns-clause-callable g c =
    let called = c.hand_out.ensures.called in
    let ranges = c.as_slice.result.now in
    let sink = c.sink-1.given.1 (chained_keeps _ (λ ys s. c.hand_out-arg-1.given ≡ s.1.ghost_name) (λ ys q x v i k. search rules) ranges _ _ refl called) in
    subst (λ f. goal.F-IsAlwaysCallable g f) (sym sink)
    (chained_keeps _ (λ ys s. goal.F-IsAlwaysCallable g s.1.now) (λ ys q x v i k. search rules) ranges _ _ c.requires called)
