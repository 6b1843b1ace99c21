-- A range that is handed out of an answer is handed out of the part of it that was found early, if it is one of that.
use Rattle.std.proofs.Common.{◌≡◌, ℕ, nat_le, List, [], ◌∷◌, ◌++◌, subst, ap, arith, inl, inr, ◌∙◌}
use Rattle.std.proofs.lemmas.Bool.{cases_Bool}
use Rattle.collation_matches.specs.declared.select.Select.{Select}
use Rattle.collation_matches.specs.declared.select.Select.TheVariants.{All, Chain}
use Rattle.collation_matches.specs.Selecting.{chain_after, selected, remembered}
use Rattle.collation_matches.proofs.BridgeLists.{In, Rising, in_append}
use Rattle.collation_matches.proofs.FewRanges.{From}
use Rattle.collation_matches.proofs.SelectingLemmas.{selected_after, selected-append, chain-taken, chain-passed}

-- a chain has no other ranges
chain_among : (end : ℕ) (ranges : List (ℕ × ℕ)) (range : ℕ × ℕ) → In (chain_after end ranges) range → In ranges range
chain_among end [] range h = h
chain_among end (first ∷ ranges) range h =
    elim (cases_Bool (nat_le end first.0)) [
      | inl taken ↦
          let there : In (first ∷ chain_after first.1 ranges) range = subst (λ (rs : List (ℕ × ℕ)). In rs range) (chain-taken end first ranges taken) h in
          elim there [
            | inl here ↦ inl here
            | inr later ↦ inr (chain_among first.1 ranges range later)
          ]
      | inr passed ↦ inr (chain_among end ranges range (subst (λ (rs : List (ℕ × ℕ)). In rs range) (chain-passed end first ranges passed) h))
    ]

selected_among : (select : Select) (end : ℕ) (ranges : List (ℕ × ℕ)) (range : ℕ × ℕ) → In (selected_after select end ranges) range → In ranges range
selected_among All end ranges range h = h
selected_among Chain end ranges range h = chain_among end ranges range h

-- no range stands twice in a list whose starts rise
rising_once : (early later : List (ℕ × ℕ)) (range : ℕ × ℕ) → Rising From (early ++ later) → In early range → In later range → ⊥
rising_once [] later range up here there = absurd here
rising_once (first ∷ early) later range up (inl here) there =
    let less = up.0 range (among early there) in
    let same = ap (λ (r : ℕ × ℕ). r.0) here in
    omega (arith, less, same)
  where
    among : (xs : List (ℕ × ℕ)) → In later range → In (xs ++ later) range
    among [] h = h
    among (x ∷ xs) h = inr (among xs h)
rising_once (first ∷ early) later range up (inr here) there = rising_once early later range up.1 here there

pub selected-early : (select : Select) (all early later : List (ℕ × ℕ)) (range : ℕ × ℕ) → Rising From all → all ≡ early ++ later →
    In early range → In (selected select all) range → In (selected select early) range
selected-early select all early later range up parts here there =
    let handed = selected select early in
    let after = selected_after select (remembered select handed) later in
    let split : In (handed ++ after) range = subst (λ (rs : List (ℕ × ℕ)). In rs range) (ap (selected select) parts ∙ selected-append select early later) there in
    elim (in_append handed after range split) [
      | inl before ↦ before
      | inr behind ↦
          absurd (rising_once early later range (subst (Rising From) parts up) here (selected_among select (remembered select handed) later range behind))
    ]

-- what is handed out is among what is found
pub selected-among : (select : Select) (all : List (ℕ × ℕ)) (range : ℕ × ℕ) → In (selected select all) range → In all range
selected-among All all range h = h
selected-among Chain all range h = chain_among 0 all range h
