use Rattle.std.proofs.Common.{◌≡◌, ◌≤◌, [], ◌∷◌, subst, arith, rules}
use Rattle.collation_letters.specs.Letters.{IsLetter}
use Rattle.collation_letters.specs.Store.{IsPairKept}
use Rattle.collation_letters.proofs.pair_places.PairPlaces.letter.Goals as goal

pub returns-clause-right : goal.returns-clause-right
returns-clause-right c = λ table pattern are.
    let it = c.in_ok-kept.kept.now in
    let one : it.first ≡ c.args.first = omega arith in
    let other : it.second ≡ c.args.second = omega arith in
    let kept : IsPairKept table pattern it = search rules depth 4 in
    subst (λ n. IsLetter table pattern (n ∷ c.args.second ∷ []) it.letter) one (subst (λ n. IsLetter table pattern (it.first ∷ n ∷ []) it.letter) other kept)

pub returns-clause-none : goal.returns-clause-none
returns-clause-none c = λ none.
    let it = c.in_ok-kept.kept.now in
    let one : it.first ≡ c.args.first = omega arith in
    let above : 0x11_0000 ≤ it.first = search rules depth 4 in
    absurd (omega (arith, one, above))
