-- The range that ends with some clusters, read off the flat list of their keys.
use Rattle.std.proofs.Common.{◌≡◌, ℕ, zero, suc, ◌+◌, ◌-◌, ◌<◌, ◌≤◌, Bool, true, false, ◌&&◌, cond, List, [], ◌∷◌, ◌++◌, length, drop, map, refl, sym, ap, ◌∙◌, arith, inl, inr, length-append}
use Rattle.std.proofs.lemmas.Bool.{and_parts, cond-true, cond-false, cases_lt, lt-ltb, false_from_ne_true}
use Rattle.collation_elements.specs.declared.keys.Key.{Key}
use Rattle.collation_elements.specs.Clusters.{Cluster, joined}
use Rattle.collation_pattern.specs.Border.{same_keys}
use Rattle.collation_matches.specs.ByClusters.{has_keys, last_has_keys, starts_of, placed_at, placed, range_from, ended_by_keys}
use Rattle.collation_matches.specs.ByClusters.{PlacedKey}
use Rattle.collation_matches.specs.ByClustersLaws.{last_keys_decide}
use Rattle.collation_pattern.proofs.KeyEquality.{same_keys-true}
use Rattle.collation_matches.proofs.BridgeFound.{begins, starts_short, to_end}

abbrev key_of : PlacedKey → Key
key_of k = k.key

-- the range that begins with the first of the last keys
abbrev by_last : List Key → List PlacedKey → ℕ → List (ℕ × ℕ)
by_last pattern last end = cond (same_keys (map key_of last) pattern) (range_from last end) []

keys-placed_at : (start : ℕ) (is_first : Bool) (ks : List Key) (rest : List PlacedKey) → map key_of (placed_at start is_first ks ++ rest) ≡ ks ++ map key_of rest
keys-placed_at start is_first [] rest = refl
keys-placed_at start is_first (k ∷ ks) rest = ap (λ (l : List Key). k ∷ l) (keys-placed_at start false ks rest)

pub keys-placed : (cs : List Cluster) → map key_of (placed cs) ≡ joined cs
keys-placed [] = refl
keys-placed (c ∷ cs) = keys-placed_at c.start true c.keys (placed cs) ∙ ap (λ ks. c.keys ++ ks) (keys-placed cs)

length-placed_at : (start : ℕ) (is_first : Bool) (ks : List Key) → length (placed_at start is_first ks) ≡ length ks
length-placed_at start is_first [] = refl
length-placed_at start is_first (k ∷ ks) = ap suc (length-placed_at start false ks)

pub length-placed : (cs : List Cluster) → length (placed cs) ≡ length (joined cs)
length-placed [] = refl
length-placed (c ∷ cs) =
    let here = length-placed_at c.start true c.keys in
    let rest = length-placed cs in
    omega (arith, here, rest, length-append (placed_at c.start true c.keys) (placed cs), length-append c.keys (joined cs))

drop_past : {A : Type 0} (xs ys : List A) (n : ℕ) → drop (length xs + n) (xs ++ ys) ≡ drop n ys
drop_past [] ys n = let e : 0 + n ≡ n = omega arith in ap (λ k. drop k ys) e
drop_past (x ∷ xs) ys n =
    let e : suc (length xs) + n ≡ suc (length xs + n) = omega arith in
    ap (λ k. drop k (x ∷ (xs ++ ys))) e ∙ drop_past xs ys n

not_first : (start : ℕ) (ks : List Key) (rest : List PlacedKey) (n end : ℕ) → n < length ks → range_from (drop n (placed_at start false ks ++ rest)) end ≡ []
not_first start [] rest n end h = absurd (omega arith)
not_first start (k ∷ ks) rest zero end h = refl
not_first start (k ∷ ks) rest (suc n) end h = not_first start ks rest n end (omega arith)

cond_same : {A : Type 0} (b : Bool) (x : A) → cond b x x ≡ x
cond_same true x = refl
cond_same false x = refl

drop_none : (n : ℕ) → drop {A = PlacedKey} n [] ≡ []
drop_none zero = refl
drop_none (suc n) = refl

not_of_length : (pattern : List Key) (c : Cluster) (cs : List Cluster) → (length (joined (c ∷ cs)) ≡ length pattern → ⊥) → begins pattern c cs ≡ false
not_of_length pattern c cs differ =
    false_from_ne_true (begins pattern c cs) (λ h.
    let parts = and_parts (has_keys c) (same_keys (joined (c ∷ cs)) pattern) h in
    differ (ap (λ (ks : List Key). length ks) (same_keys-true (joined (c ∷ cs)) pattern parts.1)))

abbrev mapped : List Key → ℕ → List Cluster → List (ℕ × ℕ)
mapped pattern end cs = map (to_end end) (starts_of pattern cs)

mapped-not : (pattern : List Key) (end : ℕ) (c : Cluster) (cs : List Cluster) → begins pattern c cs ≡ false → mapped pattern end (c ∷ cs) ≡ mapped pattern end cs
mapped-not pattern end c cs no' =
    ap (λ (xs : List ℕ). map (to_end end) (xs ++ starts_of pattern cs)) (cond-false (begins pattern c cs) (c.start ∷ []) [] no')

-- a cluster with keys, with fewer keys than the pattern's after it
module _ (pattern : List Key) (end start : ℕ) (k : Key) (ks : List Key) (cs : List Cluster) where
  abbrev c : Cluster
  c = record { start = start; keys = k ∷ ks }

  here_has_keys : has_keys c ≡ true
  here_has_keys = lt-ltb 0 (length (k ∷ ks)) (omega arith)

  total : length (placed (c ∷ cs)) ≡ length (joined (c ∷ cs))
  total = length-placed (c ∷ cs)

  -- the last keys are all after this cluster
  following : length pattern ≤ length (joined cs) → mapped pattern end cs ≡ ended_by_keys pattern (placed cs) end →
      mapped pattern end (c ∷ cs) ≡ ended_by_keys pattern (placed (c ∷ cs)) end
  following h same =
      let rest = length-placed cs in
      let joins = length-append (k ∷ ks) (joined cs) in
      let parts = length-append (placed_at start true (k ∷ ks)) (placed cs) in
      let none = not_of_length pattern c cs (λ e. omega (arith, e, h, joins)) in
      let n = length (placed cs) - length pattern in
      let place : length (placed (c ∷ cs)) - length pattern ≡ length (placed_at start true (k ∷ ks)) + n = omega (arith, parts, rest, h) in
      let last : drop (length (placed (c ∷ cs)) - length pattern) (placed (c ∷ cs)) ≡ drop n (placed cs) =
      ap (λ i. drop i (placed (c ∷ cs))) place ∙ drop_past (placed_at start true (k ∷ ks)) (placed cs) n in
      mapped-not pattern end c cs none ∙ same ∙ ap (λ l. by_last pattern l end) (sym last)

  -- they begin within this cluster, after its first key
  inside : length (joined cs) < length pattern → length pattern < length (joined (c ∷ cs)) →
      mapped pattern end (c ∷ cs) ≡ ended_by_keys pattern (placed (c ∷ cs)) end
  inside h more =
      let rest = length-placed cs in
      let here = length-placed_at start false ks in
      let joins = length-append ks (joined cs) in
      let parts = length-append (placed_at start false ks) (placed cs) in
      let none = not_of_length pattern c cs (λ e. omega (arith, e, more)) in
      let n = length (joined (c ∷ cs)) - suc (length pattern) in
      let place : length (placed (c ∷ cs)) - length pattern ≡ suc n = omega (arith, total, more) in
      let last : drop (length (placed (c ∷ cs)) - length pattern) (placed (c ∷ cs)) ≡ drop n (placed_at start false ks ++ placed cs) =
      ap (λ i. drop i (placed (c ∷ cs))) place in
      let nothing = not_first start ks (placed cs) n end (omega (arith, joins, h, more)) in
      mapped-not pattern end c cs none
      ∙ ap (λ (xs : List ℕ). map (to_end end) xs) (starts_short pattern cs h)
      ∙ sym (ap (λ l. by_last pattern l end) last
      ∙ ap (λ (xs : List (ℕ × ℕ)). cond (same_keys (map key_of (drop n (placed_at start false ks ++ placed cs))) pattern) xs []) nothing
      ∙ cond_same (same_keys (map key_of (drop n (placed_at start false ks ++ placed cs))) pattern) [])

  -- there are no more keys than from the start of this cluster on
  whole : length (joined cs) < length pattern → length (joined (c ∷ cs)) ≤ length pattern →
      mapped pattern end (c ∷ cs) ≡ ended_by_keys pattern (placed (c ∷ cs)) end
  whole h few =
      let place : length (placed (c ∷ cs)) - length pattern ≡ 0 = omega (arith, total, few) in
      let last : drop (length (placed (c ∷ cs)) - length pattern) (placed (c ∷ cs)) ≡ placed (c ∷ cs) = ap (λ i. drop i (placed (c ∷ cs))) place in
      let same = same_keys (joined (c ∷ cs)) pattern in
      let test : begins pattern c cs ≡ same = ap (λ b. b && same) here_has_keys in
      ap (λ (xs : List ℕ). map (to_end end) (cond (begins pattern c cs) (start ∷ []) [] ++ xs)) (starts_short pattern cs h)
      ∙ ap (λ b. map (to_end end) (cond b (start ∷ []) [] ++ [])) test
      ∙ one_or_none same
      ∙ sym (ap (λ l. by_last pattern l end) last
      ∙ ap (λ (l : List Key). cond (same_keys l pattern) ((start, end) ∷ []) []) (keys-placed (c ∷ cs)))
    where
      one_or_none : (b : Bool) → map (to_end end) (cond b (start ∷ []) [] ++ []) ≡ cond b ((start, end) ∷ []) []
      one_or_none true = refl
      one_or_none false = refl

mapped-cons : (pattern : List Key) (end start : ℕ) (ks : List Key) (cs : List Cluster) → mapped pattern end cs ≡ ended_by_keys pattern (placed cs) end →
    mapped pattern end (record { start = start; keys = ks } ∷ cs) ≡ ended_by_keys pattern (placed (record { start = start; keys = ks } ∷ cs)) end
mapped-cons pattern end start [] cs same = same
mapped-cons pattern end start (k ∷ ks) cs same =
    elim (cases_lt (length (joined cs)) (length pattern)) [
      | inl few ↦ elim (cases_lt (length pattern) (length (joined (record { start = start; keys = k ∷ ks } ∷ cs)))) [
        | inl more ↦ inside pattern end start k ks cs few more
        | inr no_more ↦ whole pattern end start k ks cs few no_more
      ]
      | inr many ↦ following pattern end start k ks cs many same
    ]

mapped-by_keys : (pattern : List Key) (end : ℕ) (cs : List Cluster) → mapped pattern end cs ≡ ended_by_keys pattern (placed cs) end
mapped-by_keys pattern end [] =
    sym (ap (λ l. by_last pattern l end) (drop_none (0 - length pattern)) ∙ cond_same (same_keys [] pattern) [])
mapped-by_keys pattern end (c ∷ cs) = mapped-cons pattern end c.start c.keys cs (mapped-by_keys pattern end cs)

pub ended-by_keys : last_keys_decide
ended-by_keys pattern cs end h = cond-true (last_has_keys cs) (mapped pattern end cs) [] h ∙ mapped-by_keys pattern end cs
