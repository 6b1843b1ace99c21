use Rattle.std.proofs.Common.{rules, ◌≡◌, ◌<◌, ◌^◌, ◌++◌, [], ◌∷◌, ℕ, List, false, ◌∙◌, ap, refl, sym, subst, append_assoc, append-nil}
use Rattle.std.proofs.lemmas.Fn.{chained_keeps}
use denote.Param.Always.{mut_by}
use Rattle.colfind_io.specs.Gathering.{Prints}
use Rattle.colfind_run.proofs.texts.search_piece.Goals as goal

pub feed_with-answer-requires : goal.feed_with-answer-requires
feed_with-answer-requires g c =
    mut_by _ (λ s. s.0.now.failed ≡ false → g.O.Target.failures s.1.now < 2 ^ 63) (λ s a i. search rules) (λ s a r t i e. search rules) _ c.requires

-- the calls leave both references to what they were to, so what the sink holds at the end is what the two are then
pub send-requires : goal.send-requires
send-requires g c =
    let fed = c.feed_with-answer.ensures.fed in
    let here = chained_keeps _ (λ ys s. s.0.now.failed ≡ false → g.O.Target.failures s.1.now < 2 ^ 63) (λ ys q x v i k. search rules) fed.0 _ _ c.requires fed.1 in
    let lines = c.lines-1.given.1 (chained_keeps _ (λ ys s. c.feed_with-arg-3-1.given ≡ s.0.ghost_name) (λ ys q x v i k. search rules) fed.0 _ _ refl fed.1) in
    let out = c.out-1.given.1 (chained_keeps _ (λ ys s. c.feed_with-arg-4-1.given ≡ s.1.ghost_name) (λ ys q x v i k. search rules) fed.0 _ _ refl fed.1) in
    λ good. subst (λ o. g.O.Target.failures o < 2 ^ 63) (sym out) (here (ap (λ l. l.failed) (sym lines) ∙ good))

pub returns-clause-fed : goal.returns-clause-fed
returns-clause-fed g c =
    let fed = c.feed_with-answer.ensures.fed in
    let lines = c.lines-1.given.1 (chained_keeps _ (λ ys s. c.feed_with-arg-3-1.given ≡ s.0.ghost_name) (λ ys q x v i k. search rules) fed.0 _ _ refl fed.1) in
    let out = c.out-1.given.1 (chained_keeps _ (λ ys s. c.feed_with-arg-4-1.given ≡ s.1.ghost_name) (λ ys q x v i k. search rules) fed.0 _ _ refl fed.1) in (
      fed.0,
      fed.2,
      λ form ranges before f p.
          let here = chained_keeps _ (λ ys s. Prints form s.0.now (ranges ++ ys) before (g.O.Target.held s.1.now) f (g.O.Target.failures s.1.now))
          (λ ys q x v i k.
          let more : Prints form v.0.now ((ranges ++ ys) ++ x ∷ []) before (g.O.Target.held v.1.now) f (g.O.Target.failures v.1.now) = search rules in
          subst (λ (t : List (ℕ × ℕ)). Prints form v.0.now t before (g.O.Target.held v.1.now) f (g.O.Target.failures v.1.now)) (append_assoc ranges ys (x ∷ [])) more)
          fed.0 _ _ (subst (λ (t : List (ℕ × ℕ)). Prints form c.args.lines.now t before (g.O.Target.held c.args.out.now) f (g.O.Target.failures c.args.out.now)) (sym (append-nil ranges)) p) fed.1 in
          c.send.ensures.prints form (ranges ++ fed.0) before f
          (subst (λ l. Prints form l (ranges ++ fed.0) before (g.O.Target.held c.out-1.given.0) f (g.O.Target.failures c.out-1.given.0)) (sym lines)
          (subst (λ o. Prints form c.feed_with-answer.new.sink.0.now (ranges ++ fed.0) before (g.O.Target.held o) f (g.O.Target.failures o)) (sym out) here)),
    )
