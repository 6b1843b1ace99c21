-- When the keys of a text are the first of a pattern's.
use Rattle.std.proofs.Common.{◌≡◌, ◌∙◌, ℕ, suc, ◌+◌, ◌≤◌, true, false, List, [], ◌∷◌, ◌++◌, length, take, drop, sym, ap, arith, inl, inr, length-append}
use Rattle.std.proofs.lemmas.Bool.{cases_Bool}
use Rattle.std.proofs.lemmas.List.{take-take, append_assoc, length-take-le}
use Rattle.std.proofs.Math.Seq.{take-append_seam}
use Rattle.std.proofs.lemmas.Grind.{flat_map-append}
use Rattle.collation_elements.specs.declared.keys.Key.{Key}
use Rattle.collation_elements.specs.declared.keys.Item.{Item}
use Rattle.collation_elements.specs.ItemParts.{keys_in, item_keys}
use Rattle.collation_pattern.specs.Border.{same_keys}
use Rattle.collation_pattern.specs.Borders.{IsNextKey}
use Rattle.collation_pattern.proofs.KeyEquality.{same_keys-true, same_keys-same}
use Rattle.collation_anchored.specs.Anchored.{is_begun}

pub begun-is : (pattern ks : List Key) → is_begun pattern ks ≡ true → take (length ks) pattern ≡ ks
begun-is pattern ks h = same_keys-true (take (length ks) pattern) ks h

pub begun-from : (pattern ks : List Key) → take (length ks) pattern ≡ ks → is_begun pattern ks ≡ true
begun-from pattern ks e = ap (λ (ls : List Key). same_keys ls ks) e ∙ same_keys-same ks

-- the first so many keys are
pub begun-take : (pattern : List Key) (n : ℕ) → n ≤ length pattern → is_begun pattern (take n pattern) ≡ true
begun-take pattern n h = begun-from pattern (take n pattern) (ap (λ m. take m pattern) (length-take-le n pattern h))

begun-prefix : (pattern ks more : List Key) → is_begun pattern (ks ++ more) ≡ true → is_begun pattern ks ≡ true
begun-prefix pattern ks more h =
    let sum = length-append ks more in
    let short : length ks ≤ length (ks ++ more) = omega arith in
    begun-from pattern ks (sym (take-take (length ks) (length (ks ++ more)) pattern short) ∙ ap (take (length ks)) (begun-is pattern (ks ++ more) h) ∙ take-append_seam ks more)

-- where they are not, no keys after them make them so
pub never_begun : (pattern ks more : List Key) → is_begun pattern ks ≡ false → is_begun pattern (ks ++ more) ≡ false
never_begun pattern ks more h = elim (cases_Bool (is_begun pattern (ks ++ more))) [
  | inr not ↦ not
  | inl is ↦ let both : true ≡ false = sym (begun-prefix pattern ks more is) ∙ h in cc
]

-- another key than the pattern's next
pub other_key : (pattern : List Key) (n : ℕ) (key : Key) → n ≤ length pattern → (IsNextKey pattern n key → ⊥) → is_begun pattern (take n pattern ++ key ∷ []) ≡ false
other_key pattern n key within other = elim (cases_Bool (is_begun pattern (take n pattern ++ key ∷ []))) [
  | inr not ↦ not
  | inl is ↦
      let sum = length-append (take n pattern) (key ∷ []) in
      let front = length-take-le n pattern within in
      let len : length (take n pattern ++ key ∷ []) ≡ n + 1 = omega (arith, sum, front) in
      absurd (other (ap (λ m. take m pattern) (sym len) ∙ begun-is pattern (take n pattern ++ key ∷ []) is))
]

-- ---- an item among others

-- where the keys up to one of some items are no longer the pattern's, those of all are not
pub never_begun_by : (pattern : List Key) (matched count : ℕ) (items : List Item) (i : ℕ) (item : Item) →
    take count pattern ≡ take matched pattern ++ item_keys (take i items) → items ≡ take i items ++ item ∷ drop (suc i) items →
    is_begun pattern (take count pattern ++ item_keys (item ∷ [])) ≡ false → is_begun pattern (take matched pattern ++ item_keys items) ≡ false
never_begun_by pattern matched count items i item came parts other =
    let a = take matched pattern in
    let b = item_keys (take i items) in
    let c = item_keys (item ∷ []) in
    let d = item_keys (drop (suc i) items) in
    let all : item_keys items ≡ b ++ (c ++ d) =
    ap item_keys parts ∙ flat_map-append keys_in (take i items) (item ∷ drop (suc i) items) ∙ ap (λ (ks : List Key). b ++ ks) (flat_map-append keys_in (item ∷ []) (drop (suc i) items)) in
    let here : is_begun pattern ((a ++ b) ++ c) ≡ false = ap (λ (ks : List Key). is_begun pattern (ks ++ c)) (sym came) ∙ other in
    ap (λ (ks : List Key). is_begun pattern (a ++ ks)) all
    ∙ ap (is_begun pattern) (sym (append_assoc a b (c ++ d)) ∙ sym (append_assoc (a ++ b) c d))
    ∙ never_begun pattern ((a ++ b) ++ c) d here
