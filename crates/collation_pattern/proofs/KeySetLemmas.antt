-- Sets of the places of keys.
use Rattle.std.proofs.Common.{◌≡◌, ◌<◌, ◌≤◌, ◌+◌, ◌∙◌, ℕ, List, length, get_or, replicate, set, slice_get, Some, sym, ap, subst, inl, inr, arith}
use Rattle.std.proofs.lemmas.Bool.{cases_lt, cases_eq}
use Rattle.std.proofs.lemmas.List.{get_or-replicate, get_or_past, get_or-set_same, get_or-set_other, length-replicate}
use Rattle.std.proofs.lemmas.Option.{get_or_from_slice_get}
use Rattle.collation_elements.specs.declared.keys.Key.{Key}
use Rattle.collation_pattern.specs.KeySets.{place_in_set}

-- the first n of these keys are at their places, and none stands before the number there
abbrev pub HavePlaces : ℕ → List Key → List ℕ → Type 0
HavePlaces n keys places = (i : ℕ) (key : Key) → i < n → slice_get keys i ≡ Some key →
    let number = get_or places (place_in_set key) 0 in (1 ≤ number) × (number ≤ i + 1)

-- no number is over n
abbrev pub AreUpTo : ℕ → List ℕ → Type 0
AreUpTo n places = (place : ℕ) → get_or places place 0 ≤ n

-- which of these keys has the place of key n
same_key : (keys : List Key) (n place i : ℕ) (key blank : Key) → place ≡ place_in_set (get_or keys n blank) → i ≡ n → slice_get keys i ≡ Some key →
    place_in_set key ≡ place
same_key keys n place i key blank here is at =
    ap place_in_set (sym (get_or_from_slice_get keys i key blank at) ∙ ap (λ k. get_or keys k blank) is) ∙ sym here

-- one key more, whose place has a number
pub places-same : (keys : List Key) (places : List ℕ) (n place : ℕ) (blank : Key) → place ≡ place_in_set (get_or keys n blank) →
    1 ≤ get_or places place 0 → AreUpTo n places → HavePlaces n keys places → HavePlaces (n + 1) keys places
places-same keys places n place blank here some few so_far = λ i key below at. elim (cases_lt i n) [
  | inl before ↦ so_far i key before at
  | inr last ↦
      let is : i ≡ n = omega (arith, below, last) in
      let same = same_key keys n place i key blank here is at in
      let up_to = few place in
      subst (λ k. (1 ≤ get_or places k 0) × (get_or places k 0 ≤ i + 1)) (sym same) (some, omega (arith, up_to, is))
]

-- one key more, whose place has none
pub places-more : (keys : List Key) (places : List ℕ) (n place number : ℕ) (blank : Key) → place < length places → place ≡ place_in_set (get_or keys n blank) →
    get_or places place 0 ≡ 0 → 1 ≤ number → number ≤ n + 1 → HavePlaces n keys places → HavePlaces (n + 1) keys (set places place number)
places-more keys places n place number blank within here none some own so_far = λ i key below at.
    elim (cases_eq (place_in_set key) place) [
      | inl same ↦ elim (cases_lt i n) [
        | inl before ↦
            let old = so_far i key before at in
            let zero : get_or places (place_in_set key) 0 ≡ 0 = ap (λ k. get_or places k 0) same ∙ none in
            absurd (omega (arith, old.0, zero))
        | inr last ↦
            let value : get_or (set places place number) (place_in_set key) 0 ≡ number =
            ap (λ k. get_or (set places place number) k 0) same ∙ get_or-set_same places place number 0 within in
            (omega (arith, value, some), omega (arith, value, own, last))
      ]
      | inr other ↦ elim (cases_lt i n) [
        | inl before ↦
            let value = get_or-set_other places place (place_in_set key) number 0 other in
            let old = so_far i key before at in
            (omega (arith, value, old.0), omega (arith, value, old.1))
        | inr last ↦ absurd (other (same_key keys n place i key blank here (omega (arith, below, last)) at))
      ]
    ]

pub up_to-same : (n : ℕ) (places : List ℕ) → AreUpTo n places → AreUpTo (n + 1) places
up_to-same n places few = λ i. let old = few i in omega (arith, old)

pub up_to-more : (n : ℕ) (places : List ℕ) (place number : ℕ) → place < length places → number ≤ n + 1 → AreUpTo n places → AreUpTo (n + 1) (set places place number)
up_to-more n places place number within own few = λ i. elim (cases_eq i place) [
  | inl same ↦
      let value : get_or (set places place number) i 0 ≡ number = ap (λ k. get_or (set places place number) k 0) same ∙ get_or-set_same places place number 0 within in
      omega (arith, value, own)
  | inr other ↦
      let value = get_or-set_other places place i number 0 other in
      let old = few i in omega (arith, value, old)
]

pub up_to-none : (count n : ℕ) → AreUpTo n (replicate count 0)
up_to-none count n = λ i. elim (cases_lt i count) [
  | inl within ↦ let value = get_or-replicate {A = ℕ} count i 0 0 within in omega (arith, value)
  | inr past ↦ let value = get_or_past {X = ℕ} (replicate count 0) i 0 (omega (arith, past, length-replicate {A = ℕ} count 0)) in omega (arith, value)
]
