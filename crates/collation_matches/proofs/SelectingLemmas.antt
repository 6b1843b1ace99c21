-- How a selection goes on: with ranges after others, by what has to be remembered of those that were handed out.
use Rattle.std.proofs.Common.{◌≡◌, ℕ, ◌≤◌, ◌<◌, true, false, nat_le, List, [], ◌∷◌, ◌++◌, refl, sym, ap, ◌∙◌, arith, inl, inr}
use Rattle.std.proofs.lemmas.Bool.{cases_Bool, cond-true, cond-false, le-leb, leb-true}
use Rattle.collation_matches.specs.declared.select.Select.{Select}
use Rattle.collation_matches.specs.declared.select.Select.TheVariants.{All, Chain}
use Rattle.collation_matches.specs.Selecting.{chain_after, selected, end_after, remembered}

-- ---- a chain

pub chain-taken : (end : ℕ) (range : ℕ × ℕ) (ranges : List (ℕ × ℕ)) → nat_le end range.0 ≡ true → chain_after end (range ∷ ranges) ≡ range ∷ chain_after range.1 ranges
chain-taken end range ranges h = cond-true (nat_le end range.0) (range ∷ chain_after range.1 ranges) (chain_after end ranges) h

pub chain-passed : (end : ℕ) (range : ℕ × ℕ) (ranges : List (ℕ × ℕ)) → nat_le end range.0 ≡ false → chain_after end (range ∷ ranges) ≡ chain_after end ranges
chain-passed end range ranges h = cond-false (nat_le end range.0) (range ∷ chain_after range.1 ranges) (chain_after end ranges) h

pub chain-append : (end : ℕ) (xs ys : List (ℕ × ℕ)) → chain_after end (xs ++ ys) ≡ chain_after end xs ++ chain_after (end_after end (chain_after end xs)) ys
chain-append end [] ys = refl
chain-append end (x ∷ xs) ys =
    elim (cases_Bool (nat_le end x.0)) [
      | inl taken ↦
          let here = chain-taken end x xs taken in
          chain-taken end x (xs ++ ys) taken ∙ ap (λ (rs : List (ℕ × ℕ)). x ∷ rs) (chain-append x.1 xs ys)
          ∙ sym (ap (λ (rs : List (ℕ × ℕ)). rs ++ chain_after (end_after end rs) ys) here)
      | inr passed ↦
          let here = chain-passed end x xs passed in
          chain-passed end x (xs ++ ys) passed ∙ chain-append end xs ys
          ∙ sym (ap (λ (rs : List (ℕ × ℕ)). rs ++ chain_after (end_after end rs) ys) here)
    ]

pub end_after-append : (end : ℕ) (xs ys : List (ℕ × ℕ)) → end_after end (xs ++ ys) ≡ end_after (end_after end xs) ys
end_after-append end [] ys = refl
end_after-append end (x ∷ xs) ys = end_after-append x.1 xs ys

-- ---- a selection

-- those of the ranges that follow, where that is remembered of those before
abbrev pub selected_after : Select → ℕ → List (ℕ × ℕ) → List (ℕ × ℕ)
selected_after All end ranges = ranges
selected_after Chain end ranges = chain_after end ranges

pub selected-append : (select : Select) (xs ys : List (ℕ × ℕ)) → selected select (xs ++ ys) ≡ selected select xs ++ selected_after select (remembered select (selected select xs)) ys
selected-append All xs ys = refl
selected-append Chain xs ys = chain-append 0 xs ys

pub selected-nil : (select : Select) → selected select [] ≡ []
selected-nil All = refl
selected-nil Chain = refl

pub remembered-nil : (select : Select) → remembered select [] ≡ 0
remembered-nil All = refl
remembered-nil Chain = refl

-- none follows
pub selected_after-nil : (select : Select) (end : ℕ) → selected_after select end [] ≡ []
selected_after-nil All end = refl
selected_after-nil Chain end = refl

-- one that begins early enough to overlap is passed over
pub selected_after-passed : (select : Select) (end : ℕ) (range : ℕ × ℕ) → range.0 < end → (select ≡ All → end ≡ 0) → selected_after select end (range ∷ []) ≡ []
selected_after-passed All end range less none = absurd (omega (arith, less, none refl))
selected_after-passed Chain end range less none = chain-passed end range [] (lt-not-le end range.0 less)
  where
    lt-not-le : (end start : ℕ) → start < end → nat_le end start ≡ false
    lt-not-le end start h =
        elim (cases_Bool (nat_le end start)) [
          | inl le ↦ let there = leb-true end start le in absurd (omega (arith, there, h))
          | inr gt ↦ gt
        ]

-- another one is taken
pub selected_after-taken : (select : Select) (end : ℕ) (range : ℕ × ℕ) → end ≤ range.0 → selected_after select end (range ∷ []) ≡ range ∷ []
selected_after-taken All end range h = refl
selected_after-taken Chain end range h = chain-taken end range [] (le-leb end range.0 h)

pub remembered-all : (ranges : List (ℕ × ℕ)) (select : Select) → select ≡ All → remembered select ranges ≡ 0
remembered-all ranges All h = refl
remembered-all ranges Chain h = absurd (other h)
  where
    other : Chain ≡ All → ⊥
    other e = cc

-- one more
pub remembered-one : (select : Select) (ranges : List (ℕ × ℕ)) (range : ℕ × ℕ) → select ≡ Chain → remembered select (ranges ++ range ∷ []) ≡ range.1
remembered-one All ranges range h = absurd (other h)
  where
    other : All ≡ Chain → ⊥
    other e = cc
remembered-one Chain ranges range h = end_after-append 0 ranges (range ∷ [])
