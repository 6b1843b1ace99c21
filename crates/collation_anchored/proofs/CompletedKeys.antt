-- Where among some items the first cluster begins before which the keys are a pattern's.
use Rattle.std.proofs.Common.{◌≡◌, ◌∙◌, ℕ, ◌≤◌, ◌==◌, true, false, cond, List, [], ◌∷◌, ◌++◌, length, take, Option, Some, None, sym, ap, arith, inl, inr, refl, append_assoc}
use Rattle.std.proofs.lemmas.Bool.{cases_Bool, cond-true, cond-false, ne_eqb, eq-eqb}
use Rattle.std.proofs.lemmas.List.{append-nil, take_all, length-take-le}
use Rattle.collation_elements.specs.declared.keys.Key.{Key}
use Rattle.collation_elements.specs.declared.keys.Item.{Item}
use Rattle.collation_elements.specs.declared.keys.Item.TheVariants.{ClusterStart, Element}
use Rattle.collation_elements.specs.ItemParts.{item_keys}
use Rattle.collation_pattern.specs.Border.{same_keys}
use Rattle.collation_pattern.proofs.KeyEquality.{same_keys-true, same_keys-same}
use Rattle.collation_anchored.specs.Anchored.{is_begun}
use Rattle.collation_anchored.specs.Compared.{completed_among}
use Rattle.collation_anchored.proofs.BegunKeys.{begun-from, never_begun}

-- at a cluster's start
here_or_later : List Key → List Key → ℕ → Option ℕ → Option ℕ
here_or_later pattern ks start later = cond (same_keys ks pattern) (Some start) later

pub at_start : (pattern ks : List Key) (start : ℕ) (rest : List Item) → (start == 0) ≡ true → completed_among pattern ks (ClusterStart start ∷ rest) ≡ completed_among pattern ks rest
at_start pattern ks start rest h = cond-true _ _ _ h

pub at_end : (pattern ks : List Key) (start : ℕ) (rest : List Item) → (start == 0) ≡ false → same_keys ks pattern ≡ true → completed_among pattern ks (ClusterStart start ∷ rest) ≡ Some start
at_end pattern ks start rest h same = cond-false _ _ _ h ∙ cond-true _ _ _ same

pub at_other : (pattern ks : List Key) (start : ℕ) (rest : List Item) → same_keys ks pattern ≡ false → completed_among pattern ks (ClusterStart start ∷ rest) ≡ completed_among pattern ks rest
at_other pattern ks start rest other = elim (cases_Bool (start == 0)) [
  | inl first ↦ at_start pattern ks start rest first
  | inr later ↦ cond-false _ _ _ later ∙ cond-false _ _ _ other
]

-- one that was found stays, whatever items follow
pub completed-stays : (pattern ks : List Key) (items more : List Item) (end : ℕ) → completed_among pattern ks items ≡ Some end → completed_among pattern ks (items ++ more) ≡ Some end
completed-stays pattern ks [] more end h = cc
completed-stays pattern ks (Element key ∷ rest) more end h = completed-stays pattern (ks ++ key ∷ []) rest more end h
completed-stays pattern ks (ClusterStart start ∷ rest) more end h = elim (cases_Bool (start == 0)) [
  | inl first ↦ at_start pattern ks start (rest ++ more) first ∙ completed-stays pattern ks rest more end (sym (at_start pattern ks start rest first) ∙ h)
  | inr later ↦ elim (cases_Bool (same_keys ks pattern)) [
    | inl same ↦ at_end pattern ks start (rest ++ more) later same ∙ sym (at_end pattern ks start rest later same) ∙ h
    | inr other ↦ at_other pattern ks start (rest ++ more) other ∙ completed-stays pattern ks rest more end (sym (at_other pattern ks start rest other) ∙ h)
  ]
]

-- where none was found, it is one of those that follow
pub completed-goes_on : (pattern ks : List Key) (items more : List Item) → completed_among pattern ks items ≡ None → completed_among pattern ks (items ++ more) ≡ completed_among pattern (ks ++ item_keys items) more
completed-goes_on pattern ks [] more h = ap (λ (ls : List Key). completed_among pattern ls more) (sym (append-nil ks))
completed-goes_on pattern ks (Element key ∷ rest) more h =
    completed-goes_on pattern (ks ++ key ∷ []) rest more h ∙ ap (λ (ls : List Key). completed_among pattern ls more) (append_assoc ks (key ∷ []) (item_keys rest))
completed-goes_on pattern ks (ClusterStart start ∷ rest) more h = elim (cases_Bool (start == 0)) [
  | inl first ↦ at_start pattern ks start (rest ++ more) first ∙ completed-goes_on pattern ks rest more (sym (at_start pattern ks start rest first) ∙ h)
  | inr later ↦ elim (cases_Bool (same_keys ks pattern)) [
    | inl same ↦ let both : Some start ≡ None = sym (at_end pattern ks start rest later same) ∙ h in cc
    | inr other ↦ at_other pattern ks start (rest ++ more) other ∙ completed-goes_on pattern ks rest more (sym (at_other pattern ks start rest other) ∙ h)
  ]
]

-- keys that the pattern doesn't begin with are not the pattern's
not_same : (pattern ks : List Key) → is_begun pattern ks ≡ false → same_keys ks pattern ≡ false
not_same pattern ks apart = elim (cases_Bool (same_keys ks pattern)) [
  | inr other ↦ other
  | inl same ↦
      let begun = begun-from pattern ks (ap (λ (ls : List Key). take (length ls) pattern) (same_keys-true ks pattern same) ∙ take_all (length pattern) pattern (omega arith) ∙ sym (same_keys-true ks pattern same)) in
      let both : true ≡ false = sym begun ∙ apart in cc
]

-- after such keys none is found
completed-never : (pattern ks : List Key) (items : List Item) → is_begun pattern ks ≡ false → completed_among pattern ks items ≡ None
completed-never pattern ks [] apart = refl
completed-never pattern ks (Element key ∷ rest) apart = completed-never pattern (ks ++ key ∷ []) rest (never_begun pattern ks (key ∷ []) apart)
completed-never pattern ks (ClusterStart start ∷ rest) apart = at_other pattern ks start rest (not_same pattern ks apart) ∙ completed-never pattern ks rest apart

-- so it is one of the items up to there
pub completed-apart : (pattern : List Key) (items more : List Item) → is_begun pattern (item_keys items) ≡ false → completed_among pattern [] (items ++ more) ≡ completed_among pattern [] items
completed-apart pattern items more apart = go (completed_among pattern [] items) refl
  where
    go : (found : Option ℕ) → completed_among pattern [] items ≡ found → completed_among pattern [] (items ++ more) ≡ completed_among pattern [] items
    go None is = completed-goes_on pattern [] items more is ∙ completed-never pattern (item_keys items) more apart ∙ sym is
    go (Some end) is = completed-stays pattern [] items more end is ∙ sym is

-- ---- one item more

pub key_passes : (pattern : List Key) (earlier : List Item) (key : Key) (found : Option ℕ) → found ≡ completed_among pattern [] earlier → found ≡ completed_among pattern [] (earlier ++ Element key ∷ [])
key_passes pattern earlier key None is = sym (completed-goes_on pattern [] earlier (Element key ∷ []) (sym is))
key_passes pattern earlier key (Some end) is = sym (completed-stays pattern [] earlier (Element key ∷ []) end (sym is))

-- a cluster that begins once all keys came, and no other began so before
pub start_completes : (pattern : List Key) (earlier : List Item) (n start : ℕ) → item_keys earlier ≡ take n pattern → None ≡ completed_among pattern [] earlier → n ≡ length pattern → (start ≡ 0 → ⊥) →
    Some start ≡ completed_among pattern [] (earlier ++ ClusterStart start ∷ [])
start_completes pattern earlier n start keys none all later =
    let here : item_keys earlier ≡ pattern = keys ∙ take_all n pattern (omega (arith, all)) in
    let same = ap (λ (ks : List Key). same_keys ks pattern) here ∙ same_keys-same pattern in
    sym (completed-goes_on pattern [] earlier (ClusterStart start ∷ []) (sym none) ∙ at_end pattern (item_keys earlier) start [] (ne_eqb start 0 later) same)

-- any other one
pub start_passes : (pattern : List Key) (earlier : List Item) (n start : ℕ) (found : Option ℕ) → n ≤ length pattern → item_keys earlier ≡ take n pattern → found ≡ completed_among pattern [] earlier →
    (found ≡ None → n ≡ length pattern → start ≡ 0) → found ≡ completed_among pattern [] (earlier ++ ClusterStart start ∷ [])
start_passes pattern earlier n start (Some end) within keys is other = sym (completed-stays pattern [] earlier (ClusterStart start ∷ []) end (sym is))
start_passes pattern earlier n start None within keys is other =
    let there = completed-goes_on pattern [] earlier (ClusterStart start ∷ []) (sym is) in
    elim (cases_Bool (same_keys (item_keys earlier) pattern)) [
      | inr differ ↦ sym (there ∙ at_other pattern (item_keys earlier) start [] differ)
      | inl same ↦
          let count : length (take n pattern) ≡ length pattern = ap length (sym keys ∙ same_keys-true (item_keys earlier) pattern same) in
          let all : n ≡ length pattern = sym (length-take-le n pattern within) ∙ count in
          sym (there ∙ at_start pattern (item_keys earlier) start [] (eq-eqb start 0 (other refl all)))
    ]
