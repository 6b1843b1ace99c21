use Rattle.std.proofs.Common.{rules, ◌≡◌, ◌∙◌, [], ◌∷◌, ◌++◌, refl, sym, ap}
use Rattle.std.proofs.lemmas.Fn.{chained_keeps}
use Rattle.collation_backward.specs.Backward.{last_up_to}
use Rattle.collation_backward.proofs.reading.last_of_piece.Goals as goal

-- the calls leave the references to what they were to, so what the sink holds at the end is the last one of these ranges
pub returns : goal.returns
returns g c =
    let to = c.args.to in
    let fed = c.feed_with-fed.ensures.fed in
    let kept = chained_keeps _ (λ ys s. (s.0.now ≡ to) × (s.1.now ≡ last_up_to to ys))
    (λ ys q x v i k. (search rules, k.met.1 ys (i.1 ∙ ap (λ n. last_up_to n ys) (sym i.0)) ∙ ap (λ n. last_up_to n (ys ++ x ∷ [])) i.0)) fed.0 _ _ (refl, refl) fed.1 in
    let last = c.last-2-1.given.1 (chained_keeps _ (λ ys s. c.last-1.given.0 ≡ s.1.ghost_name) (λ ys q x v i k. search rules) fed.0 _ _ refl fed.1) in
    record { fed = (fed.0, fed.2, last ∙ kept.1) }
