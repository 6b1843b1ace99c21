-- The last keys are the pattern's exactly where the whole pattern is the longest prefix of it that ends the keys.
use Rattle.std.proofs.Common.{◌≡◌, ℕ, zero, suc, ◌-◌, ◌≤◌, Bool, true, false, cond, ◌==◌, List, [], ◌∷◌, length, drop, map, min, refl, sym, ap, ◌∙◌, arith, inl, inr}
use Rattle.std.proofs.lemmas.Bool.{cond-true, cond-false, cases_Bool, cases_lt, eq-eqb, ne_eqb, false_from_ne_true}
use Rattle.collation_elements.specs.declared.keys.Key.{Key}
use Rattle.collation_pattern.specs.Border.{same_keys, ends_with_prefix, border_up_to, border}
use Rattle.collation_matches.specs.ByClusters.{PlacedKey}
use Rattle.collation_matches.specs.ByClusters.{range_from, ended_by_keys}
use Rattle.collation_pattern.proofs.KeyEquality.{same_keys-true}
use Rattle.collation_matches.proofs.BridgeGrowing.{take_all}

pub border_up_to-le : (pattern ks : List Key) (j : ℕ) → border_up_to pattern ks j ≤ j
border_up_to-le pattern ks zero = omega arith
border_up_to-le pattern ks (suc j) =
    let rest = border_up_to-le pattern ks j in
    elim (cases_Bool (ends_with_prefix pattern ks (suc j))) [
      | inl yes' ↦ omega (arith, cond-true (ends_with_prefix pattern ks (suc j)) (suc j) (border_up_to pattern ks j) yes')
      | inr no' ↦ omega (arith, rest, cond-false (ends_with_prefix pattern ks (suc j)) (suc j) (border_up_to pattern ks j) no')
    ]

abbrev ends_with : List Key → List Key → Bool
ends_with pattern ks = same_keys (drop (length ks - length pattern) ks) pattern

whole_prefix : (pattern ks : List Key) → ends_with_prefix pattern ks (length pattern) ≡ ends_with pattern ks
whole_prefix pattern ks = ap (same_keys (drop (length ks - length pattern) ks)) (take_all pattern)

at_most : (pattern ks : List Key) (n : ℕ) → length pattern ≡ n → n ≤ length ks → (border_up_to pattern ks n == length pattern) ≡ ends_with pattern ks
at_most [] ks zero e h = sym (ap (λ n. same_keys (drop n ks) []) (sub_zero) ∙ none)
  where
    sub_zero : length ks - 0 ≡ length ks
    sub_zero = omega arith

    none : same_keys (drop (length ks) ks) [] ≡ true
    none = ap (λ (l : List Key). same_keys l []) (Rattle.collation_matches.proofs.BridgeGrowing.drop_all ks)
at_most [] ks (suc n) e h = absurd (omega arith)
at_most (p ∷ ps) ks zero e h = absurd (omega arith)
at_most (p ∷ ps) ks (suc n) e h =
    let pattern = p ∷ ps in
    let test = ends_with_prefix pattern ks (suc n) in
    let same : test ≡ ends_with pattern ks = ap (ends_with_prefix pattern ks) (sym e) ∙ whole_prefix pattern ks in
    elim (cases_Bool test) [
      | inl yes' ↦
          let at : border_up_to pattern ks (suc n) ≡ suc n = cond-true test (suc n) (border_up_to pattern ks n) yes' in
          eq-eqb (border_up_to pattern ks (suc n)) (length pattern) (omega (arith, at, e)) ∙ sym yes' ∙ same
      | inr no' ↦
          let at : border_up_to pattern ks (suc n) ≡ border_up_to pattern ks n = cond-false test (suc n) (border_up_to pattern ks n) no' in
          let le = border_up_to-le pattern ks n in
          ne_eqb (border_up_to pattern ks (suc n)) (length pattern) (λ b. omega (arith, at, e, le, b)) ∙ sym no' ∙ same
    ]

pub border-tested : (pattern ks : List Key) → (border pattern ks == length pattern) ≡ same_keys (drop (length ks - length pattern) ks) pattern
border-tested pattern ks =
    elim (cases_lt (length ks) (length pattern)) [
      | inl few ↦
          let place : length ks - length pattern ≡ 0 = omega arith in
          let least : min (length pattern) (length ks) ≡ length ks = omega arith in
          let le = border_up_to-le pattern ks (length ks) in
          let differ : same_keys ks pattern ≡ false = false_from_ne_true (same_keys ks pattern) (λ t.
          let e = ap (λ (l : List Key). length l) (same_keys-true ks pattern t) in omega (arith, e, few)) in
          ap (λ n. border_up_to pattern ks n == length pattern) least
          ∙ ne_eqb (border_up_to pattern ks (length ks)) (length pattern) (λ b. omega (arith, le, b, few))
          ∙ sym (ap (λ n. same_keys (drop n ks) pattern) place ∙ differ)
      | inr many ↦
          let least : min (length pattern) (length ks) ≡ length pattern = omega arith in
          ap (λ n. border_up_to pattern ks n == length pattern) least ∙ at_most pattern ks (length pattern) refl many
    ]

map_drop : (n : ℕ) (ks : List PlacedKey) → map (λ (k : PlacedKey). k.key) (drop n ks) ≡ drop n (map (λ (k : PlacedKey). k.key) ks)
map_drop zero ks = refl
map_drop (suc n) [] = refl
map_drop (suc n) (k ∷ ks) = map_drop n ks

length_map : (ks : List PlacedKey) → length (map (λ (k : PlacedKey). k.key) ks) ≡ length ks
length_map [] = refl
length_map (k ∷ ks) = ap suc (length_map ks)

-- the range that ends after these keys, by the state that the keys lead to
pub ended-by_border : (pattern : List Key) (ks : List PlacedKey) (end : ℕ) →
    ended_by_keys pattern ks end
    ≡ cond (border pattern (map (λ (k : PlacedKey). k.key) ks) == length pattern) (range_from (drop (length ks - length pattern) ks) end) []
ended-by_border pattern ks end =
    let n = length ks - length pattern in
    let keys = map (λ (k : PlacedKey). k.key) ks in
    let same : same_keys (map (λ (k : PlacedKey). k.key) (drop n ks)) pattern ≡ (border pattern keys == length pattern) =
    ap (λ (l : List Key). same_keys l pattern) (map_drop n ks)
    ∙ ap (λ i. same_keys (drop (i - length pattern) keys) pattern) (sym (length_map ks))
    ∙ sym (border-tested pattern keys) in
    ap (λ b. cond b (range_from (drop n ks) end) []) same
