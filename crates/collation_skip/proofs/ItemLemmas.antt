-- The items of letters in a row: their keys, where clusters start among them, and that no match ends there.
use Rattle.std.proofs.Common.{◌≡◌, ◌∙◌, ◌⊎◌, ℕ, zero, suc, ◌<◌, ◌≤◌, Bool, true, false, cond, List, [], ◌∷◌, ◌++◌, length, map, Contains, get_or, inl, inr, refl, sym, ap, ap₂, subst, arith}
use Rattle.std.proofs.lemmas.Grind.{flat_map-append}
use Rattle.std.proofs.lemmas.List.{append-nil}
use Rattle.std.proofs.lemmas.List.Elements.{Contains-append_cases}
use Rattle.collation_elements.specs.declared.keys.Key.{Key}
use Rattle.collation_elements.specs.declared.keys.Item.{Item}
use Rattle.collation_elements.specs.declared.keys.Item.TheVariants.{ClusterStart, Element}
use Rattle.collation_elements.specs.ItemParts.{keys_in, item_keys}
use Rattle.collation_pattern.specs.Border.{border}
use Rattle.collation_skip.specs.Passed.{IsQuiet}

-- the items of a letter: the start of a cluster at an offset, if it begins one, and its keys
abbrev pub letter_items : Bool → ℕ → List Key → List Item
letter_items begins start keys = cond begins (ClusterStart start ∷ []) [] ++ map (λ key. Element key) keys

-- ---- keys

keys-elements : (keys : List Key) → item_keys (map (λ key. Element key) keys) ≡ keys
keys-elements [] = refl
keys-elements (k ∷ ks) = ap (λ (l : List Key). k ∷ l) (keys-elements ks)

pub keys-append : (xs ys : List Item) → item_keys (xs ++ ys) ≡ item_keys xs ++ item_keys ys
keys-append xs ys = flat_map-append keys_in xs ys

pub keys-letter : (begins : Bool) (start : ℕ) (keys : List Key) → item_keys (letter_items begins start keys) ≡ keys
keys-letter true start keys = keys-elements keys
keys-letter false start keys = keys-elements keys

-- ---- starts of clusters

none-starts : (keys : List Key) (before after : List Item) (start : ℕ) → map (λ key. Element key) keys ≡ before ++ ClusterStart start ∷ after → ⊥
none-starts [] [] after start e = cc
none-starts [] (b ∷ before) after start e = cc
none-starts (k ∷ ks) [] after start e = cc
none-starts (k ∷ ks) (b ∷ before) after start e =
    let rest : map (λ key. Element key) ks ≡ before ++ ClusterStart start ∷ after = cc in none-starts ks before after start rest

-- an item of two lists in a row is one of the first or one of the second
split-at_item : (xs ys before after : List Item) (z : Item) → xs ++ ys ≡ before ++ z ∷ after →
    ((rest : List Item) × (xs ≡ before ++ z ∷ rest)) ⊎ ((rest : List Item) × (before ≡ xs ++ rest) × (ys ≡ rest ++ z ∷ after))
split-at_item [] ys before after z e = inr (before, refl, e)
split-at_item (x ∷ xs) ys [] after z e =
    let same : x ≡ z = cc in inl (xs, ap (λ (w : Item). w ∷ xs) same)
split-at_item (x ∷ xs) ys (b ∷ before) after z e =
    let head : x ≡ b = cc in
    let tail : xs ++ ys ≡ before ++ z ∷ after = cc in
    elim (split-at_item xs ys before after z tail) [
      | inl h ↦ inl (h.0, ap₂ (λ (w : Item) (l : List Item). w ∷ l) head h.1)
      | inr h ↦ inr (h.0, ap₂ (λ (w : Item) (l : List Item). w ∷ l) (sym head) h.1, h.2)
    ]

-- where no match ends among some items, and the whole pattern does not end their keys, none ends among those with a letter more
pub quiet-more : (pattern : List Key) (items : List Item) (begins : Bool) (start : ℕ) (keys : List Key) → IsQuiet pattern items → border pattern (item_keys items) < length pattern →
    IsQuiet pattern (items ++ letter_items begins start keys)
quiet-more pattern items begins start keys quiet below = λ before after at e.
    elim (split-at_item items (letter_items begins start keys) before after (ClusterStart at) e) [
      | inl h ↦ quiet before h.0 at h.1
      | inr h ↦ by before after at begins h.0 h.1 h.2
    ]
  where
    by : (before after : List Item) (at : ℕ) (b : Bool) (rest : List Item) → before ≡ items ++ rest → letter_items b start keys ≡ rest ++ ClusterStart at ∷ after → border pattern (item_keys before) < length pattern
    by before after at false rest is e = absurd (none-starts keys rest after at e)
    by before after at true [] is e = subst (λ (l : List Item). border pattern (item_keys l) < length pattern) (sym (is ∙ append-nil items)) below
    by before after at true (r ∷ rest) is e =
        let later : map (λ key. Element key) keys ≡ rest ++ ClusterStart at ∷ after = cc in absurd (none-starts keys rest after at later)

one-contains : (x q : Item) → Contains (x ∷ []) q → x ≡ q
one-contains x q h = by h.0 h.1 h.2
  where
    by : (k : ℕ) → k < 1 → get_or (x ∷ []) k q ≡ q → x ≡ q
    by zero less e = e
    by (suc k) less e = absurd (omega (arith, less))

elements-contain_none : (keys : List Key) (start : ℕ) → Contains (map (λ key. Element key) keys) (ClusterStart start) → ⊥
elements-contain_none [] start h = let less = h.1 in omega (arith, less)
elements-contain_none (k ∷ ks) start h =
    elim (Contains-append_cases (Element k ∷ []) (map (λ key. Element key) ks) (ClusterStart start) h) [
      | inl one ↦ let same : Element k ≡ ClusterStart start = one-contains (Element k) (ClusterStart start) one in cc
      | inr rest ↦ elements-contain_none ks start rest
    ]

-- no cluster starts before an offset, with a letter more neither
pub later-more : (items : List Item) (begins : Bool) (start : ℕ) (keys : List Key) (from : ℕ) → ((at : ℕ) → Contains items (ClusterStart at) → from ≤ at) → from ≤ start →
    (at : ℕ) → Contains (items ++ letter_items begins start keys) (ClusterStart at) → from ≤ at
later-more items begins start keys from later after at h =
    elim (Contains-append_cases items (letter_items begins start keys) (ClusterStart at) h) [
      | inl old ↦ later at old
      | inr new ↦ by begins new
    ]
  where
    by : (b : Bool) → Contains (letter_items b start keys) (ClusterStart at) → from ≤ at
    by false new = absurd (elements-contain_none keys at new)
    by true new = elim (Contains-append_cases (ClusterStart start ∷ []) (map (λ key. Element key) keys) (ClusterStart at) new) [
      | inl one ↦ let same : ClusterStart start ≡ ClusterStart at = one-contains (ClusterStart start) (ClusterStart at) one in let there : start ≡ at = cc in omega (arith, after, there)
      | inr rest ↦ absurd (elements-contain_none keys at rest)
    ]
