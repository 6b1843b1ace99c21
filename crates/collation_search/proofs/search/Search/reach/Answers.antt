use Rattle.std.proofs.Common.{ℕ, List, [], ◌++◌, refl, sym, subst}
use Rattle.std.proofs.lemmas.List.{append-nil}
use Rattle.collation_search.specs.Search.{HasTaken}
use Rattle.collation_search.proofs.FeedLemmas.{takes-good}
use Rattle.collation_search.proofs.search.Search.reach.Goals as goal

-- only the letters that it met change
pub returns-clause-taken : goal.returns-clause-taken
returns-clause-taken g c =
    let search = c.args.self.now in
    takes-good search _ 0 [] [] c.requires.none c.requires.none refl
    (λ place u handed h.
    subst (λ (bytes : List ℕ). HasTaken search place bytes (handed ++ [])) (sym (append-nil u)) (subst (λ (t : List (ℕ × ℕ)). HasTaken search place u t) (sym (append-nil handed)) h.1))
