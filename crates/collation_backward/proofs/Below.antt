-- The least and the greatest of the numbers below some number that pass a test.
use Rattle.std.proofs.Common.{◌≡◌, ◌∙◌, ℕ, zero, suc, ◌+◌, ◌<◌, ◌≤◌, Bool, true, false, Some, None, sym, ap, arith, inl, inr}
use Rattle.std.proofs.lemmas.Bool.{cases_Bool, cases_lt, cond-true, cond-false, false≢true}
use Rattle.std.proofs.lemmas.Option.{none-some}
use Rattle.collation_matches.proofs.SearchLemmas.{either}
use Rattle.collation_backward.specs.Ending.{first_from, last_below}

same-number : (n k : ℕ) → Some n ≡ Some k → n ≡ k
same-number n k e = cc

-- ---- the greatest

pub last-none : (n : ℕ) (test : ℕ → Bool) (k : ℕ) → last_below n test ≡ None → k < n → test k ≡ false
last-none zero test k none less = absurd (omega (arith, less))
last-none (suc n) test k none less = elim (cases_Bool (test n)) [
  | inl passed ↦ absurd (none-some n (sym none ∙ cond-true (test n) (Some n) (last_below n test) passed))
  | inr failed ↦
      let before : last_below n test ≡ None = sym (cond-false (test n) (Some n) (last_below n test) failed) ∙ none in
      elim (cases_lt k n) [
        | inl h ↦ last-none n test k before h
        | inr h ↦ let same : k ≡ n = omega (arith, less, h) in ap test same ∙ failed
      ]
]

-- it passes, and none above it does
pub record IsLast (n : ℕ) (test : ℕ → Bool) (k : ℕ) : Type 0 where
  pub within : k < n
  pub passes : test k ≡ true
  pub last : (j : ℕ) → k < j → j < n → test j ≡ false

pub last-some : (n : ℕ) (test : ℕ → Bool) (k : ℕ) → last_below n test ≡ Some k → IsLast n test k
last-some zero test k some = absurd (none-some k some)
last-some (suc n) test k some = elim (cases_Bool (test n)) [
  | inl passed ↦
      let same = same-number n k (sym (cond-true (test n) (Some n) (last_below n test) passed) ∙ some) in
      record { within = omega (arith, same); passes = ap test (sym same) ∙ passed; last = λ j above less. absurd (omega (arith, same, above, less)) }
  | inr failed ↦
      let found = last-some n test k (sym (cond-false (test n) (Some n) (last_below n test) failed) ∙ some) in
      let within = found.within in
      record {
        within = omega (arith, within);
        passes = found.passes;
        last = λ j above less. elim (cases_lt j n) [
          | inl h ↦ found.last j above h
          | inr h ↦ let same : j ≡ n = omega (arith, less, h) in ap test same ∙ failed
        ];
      }
]

-- ---- the least

-- the first one passes, and stands no later than another one that does
pub record IsFirstUpTo (n at : ℕ) (test : ℕ → Bool) (upto : ℕ) : Type 0 where
  pub first : ℕ
  pub is : first_from n at test ≡ Some first
  pub passes : test first ≡ true
  pub before : first ≤ upto

pub first-found : (n at : ℕ) (test : ℕ → Bool) (k : ℕ) → test k ≡ true → at ≤ k → k < at + n → IsFirstUpTo n at test k
first-found zero at test k passes from less = absurd (omega (arith, from, less))
first-found (suc n) at test k passes from less = elim (cases_Bool (test at)) [
  | inl passed ↦ record { first = at; is = cond-true (test at) (Some at) (first_from n (at + 1) test) passed; passes = passed; before = from }
  | inr failed ↦ elim (cases_lt at k) [
    | inl above ↦
        let later = first-found n (at + 1) test k passes (omega (arith, above)) (omega (arith, less)) in
        record { first = later.first; is = cond-false (test at) (Some at) (first_from n (at + 1) test) failed ∙ later.is; passes = later.passes; before = later.before }
    | inr here ↦ let same : k ≡ at = omega (arith, from, here) in absurd (false≢true (sym failed ∙ ap test (sym same) ∙ passes))
  ]
]

pub first-some : (n at : ℕ) (test : ℕ → Bool) (k : ℕ) → first_from n at test ≡ Some k → (at ≤ k) × (k < at + n) × (test k ≡ true)
first-some zero at test k some = absurd (none-some k some)
first-some (suc n) at test k some = elim (cases_Bool (test at)) [
  | inl passed ↦
      let same = same-number at k (sym (cond-true (test at) (Some at) (first_from n (at + 1) test) passed) ∙ some) in
      (omega (arith, same), omega (arith, same), ap test (sym same) ∙ passed)
  | inr failed ↦
      let later = first-some n (at + 1) test k (sym (cond-false (test at) (Some at) (first_from n (at + 1) test) failed) ∙ some) in
      let from = later.0 in
      let less = later.1 in
      (omega (arith, from), omega (arith, less), later.2)
]

-- so it is the one that passes with none before it
pub first-is : (n : ℕ) (test : ℕ → Bool) (k : ℕ) → test k ≡ true → k < n → ((j : ℕ) → test j ≡ true → j < n → k ≤ j) → first_from n 0 test ≡ Some k
first-is n test k passes less least =
    let found = first-found n 0 test k passes (omega arith) (omega (arith, less)) in
    let before = found.before in
    let after = least found.first found.passes (omega (arith, less, before)) in
    let same : found.first ≡ k = omega (arith, before, after) in
    found.is ∙ ap (λ (m : ℕ). Some m) same

pub first-none : (n : ℕ) (test : ℕ → Bool) → ((j : ℕ) → test j ≡ true → j < n → ⊥) → first_from n 0 test ≡ None
first-none n test never = elim (either (first_from n 0 test)) [
  | inl none ↦ none
  | inr some ↦ let found = first-some n 0 test some.0 some.1 in let less = found.1 in absurd (never some.0 found.2 (omega (arith, less)))
]
