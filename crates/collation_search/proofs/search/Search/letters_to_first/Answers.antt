use Rattle.std.proofs.Common.{rules, ◌∙◌, ℕ, refl, slice_get}
use Rattle.std.specs.Prelude.{◌≡◌}
use Rattle.std.proofs.lemmas.Fn.{chained_keeps}
use Rattle.collation_search.proofs.search.Search.letters_to_first.Goals as goal

-- the calls leave the reference to what it was to, so what the sink holds at the end is the first of these ranges
pub returns-clause-taken : goal.returns-clause-taken
returns-clause-taken g c =
    let taken = c.feed_letters-len.ensures.taken in
    let kept = chained_keeps _ (λ ys s. s.0.now ≡ slice_get ys 0) (λ ys q x v i k. k.met.1 ys i) taken.0 _ _ refl taken.1 in
    let first = c.first-2-1.given.1 (chained_keeps _ (λ ys s. c.first-1.given.0 ≡ s.0.ghost_name) (λ ys q x v i k. search rules) taken.0 _ _ refl taken.1) in
    (taken.0, taken.2, first ∙ kept)
