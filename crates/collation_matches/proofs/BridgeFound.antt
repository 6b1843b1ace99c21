-- The ranges found cluster by cluster: which they are, that they rise, and that a cluster ends at most one.
use Rattle.std.proofs.Common.{◌≡◌, ℕ, zero, suc, ◌<◌, ◌≤◌, Bool, true, false, ◌&&◌, cond, List, [], ◌∷◌, ◌++◌, length, take, map, refl, sym, ap, ◌∙◌, subst, arith, inl, inr, length-append, append_assoc, ltb-true}
use Rattle.std.proofs.lemmas.Bool.{and_parts, and_from, cond-true, cond-false, cases_Bool, cases_lt}
use Rattle.std.proofs.lemmas.List.{append_cancel_left}
use Rattle.collation_elements.specs.declared.keys.Key.{Key}
use Rattle.collation_elements.specs.Clusters.{Cluster, starts, joined}
use Rattle.collation_pattern.specs.Border.{same_keys}
use Rattle.collation_matches.specs.ByClusters.{has_keys, last_has_keys, starts_of, ended, found_within}
use Rattle.collation_matches.proofs.BridgeLists.{In, Rising, in_append, in_left, in_right, in_map, map_in, rising_append}
use Rattle.collation_matches.proofs.BridgeRanges.{Below, Before}
use Rattle.collation_pattern.proofs.KeyEquality.{same_keys-true, same_keys-decides}
use Rattle.collation_matches.proofs.BridgeClusters.{bound, prefix, keyed, last_keyed, prefix_grows, prefix_keyed, bound_rises}

in_one : (b : Bool) (x s : ℕ) → In (cond b (x ∷ []) []) s → (b ≡ true) × (x ≡ s)
in_one true x s (inl e) = (refl, e)
in_one true x s (inr h) = absurd h
in_one false x s h = absurd h

one_in : (b : Bool) (x : ℕ) → b ≡ true → In (cond b (x ∷ []) []) x
one_in true x h = inl refl
one_in false x h = cc

abbrev pub begins : List Key → Cluster → List Cluster → Bool
begins pattern c cs = has_keys c && same_keys (joined (c ∷ cs)) pattern

-- a start that is among the starts of the first j + 1 clusters
pub in_starts : (pattern : List Key) (end : ℕ) (cs : List Cluster) (j s : ℕ) → In (starts_of pattern (take (suc j) cs)) s →
    (i : ℕ) × (i ≤ j) × (keyed cs i ≡ true) × (prefix cs (suc j) ≡ prefix cs i ++ pattern) × (bound end cs i ≡ s)
in_starts pattern end [] j s h = absurd h
in_starts pattern end (c ∷ cs) zero s h =
    elim (in_append (cond (begins pattern c []) (c.start ∷ []) []) [] s h) [
      | inl here ↦
          let one = in_one (begins pattern c []) c.start s here in
          let parts = and_parts (has_keys c) (same_keys (joined (c ∷ [])) pattern) one.0 in
          (0, omega arith, parts.0, same_keys-true (joined (c ∷ [])) pattern parts.1, one.1)
      | inr none ↦ absurd none
    ]
in_starts pattern end (c ∷ cs) (suc j) s h =
    elim (in_append (cond (begins pattern c (take (suc j) cs)) (c.start ∷ []) []) (starts_of pattern (take (suc j) cs)) s h) [
      | inl here ↦
          let one = in_one (begins pattern c (take (suc j) cs)) c.start s here in
          let parts = and_parts (has_keys c) (same_keys (joined (c ∷ take (suc j) cs)) pattern) one.0 in
          (0, omega arith, parts.0, same_keys-true (joined (c ∷ take (suc j) cs)) pattern parts.1, one.1)
      | inr rest ↦
          let r = in_starts pattern end cs j s rest in
          (suc r.0, omega (arith, r.1), r.2, ap (λ ks. c.keys ++ ks) r.3 ∙ sym (append_assoc c.keys (prefix cs r.0) pattern), r.4)
    ]

pub starts_in : (pattern : List Key) (end : ℕ) (cs : List Cluster) (i j : ℕ) → i ≤ j → keyed cs i ≡ true →
    prefix cs (suc j) ≡ prefix cs i ++ pattern → In (starts_of pattern (take (suc j) cs)) (bound end cs i)
starts_in pattern end [] i j h k e = cc
starts_in pattern end (c ∷ cs) zero j h k e =
    in_left (cond (begins pattern c (take j cs)) (c.start ∷ []) []) (starts_of pattern (take j cs)) c.start
    (one_in (begins pattern c (take j cs)) c.start
    (and_from (has_keys c) (same_keys (joined (c ∷ take j cs)) pattern) k ((same_keys-decides (joined (c ∷ take j cs)) pattern).1 e)))
starts_in pattern end (c ∷ cs) (suc i) zero h k e = absurd (omega arith)
starts_in pattern end (c ∷ cs) (suc i) (suc j) h k e =
    in_right (cond (begins pattern c (take (suc j) cs)) (c.start ∷ []) []) (starts_of pattern (take (suc j) cs)) (bound end cs i)
    (starts_in pattern end cs i j (omega arith) k
    (append_cancel_left c.keys (prefix cs (suc j)) (prefix cs i ++ pattern) (e ∙ append_assoc c.keys (prefix cs i) pattern)))

-- a range from the start of a cluster with keys to the end of a cluster with keys, whose keys are the pattern's
pub record Spans (pattern : List Key) (cs : List Cluster) (end : ℕ) (r : ℕ × ℕ) : Type 0 where
  pub from : ℕ
  pub upto : ℕ
  pub in_order : from ≤ upto
  pub within : upto < length cs
  pub from_keyed : keyed cs from ≡ true
  pub upto_keyed : keyed cs upto ≡ true
  pub fits : prefix cs (suc upto) ≡ prefix cs from ++ pattern
  pub is : (bound end cs from, bound end cs (suc upto)) ≡ r

in_if : {A : Type 0} (b : Bool) (xs : List A) (x : A) → In (cond b xs []) x → (b ≡ true) × In xs x
in_if true xs x h = (refl, h)
in_if false xs x h = absurd h

if_in : {A : Type 0} (b : Bool) (xs : List A) (x : A) → b ≡ true → In xs x → In (cond b xs []) x
if_in true xs x e h = h
if_in false xs x e h = cc

abbrev pub to_end : ℕ → ℕ → ℕ × ℕ
to_end end start = (start, end)

pub in_ended : (pattern : List Key) (end : ℕ) (cs : List Cluster) (j : ℕ) (r : ℕ × ℕ) → j < length cs →
    In (ended pattern (take (suc j) cs) (bound end cs (suc j))) r → (s : Spans pattern cs end r) × (s.upto ≡ j)
in_ended pattern end cs j r h k =
    let range = to_end (bound end cs (suc j)) in
    let a = in_if (last_has_keys (take (suc j) cs)) (map range (starts_of pattern (take (suc j) cs))) r k in
    let m = in_map range (starts_of pattern (take (suc j) cs)) r a.1 in
    let s = in_starts pattern end cs j m.0 m.1 in (
      record {
        from = s.0;
        upto = j;
        in_order = s.1;
        within = h;
        from_keyed = s.2;
        upto_keyed = sym (last_keyed cs j h) ∙ a.0;
        fits = s.3;
        is = ap range s.4 ∙ m.2;
      },
      refl,
    )

pub ended_in : (pattern : List Key) (end : ℕ) (cs : List Cluster) (i j : ℕ) → i ≤ j → j < length cs → keyed cs i ≡ true → keyed cs j ≡ true →
    prefix cs (suc j) ≡ prefix cs i ++ pattern → In (ended pattern (take (suc j) cs) (bound end cs (suc j))) (bound end cs i, bound end cs (suc j))
ended_in pattern end cs i j a h k l e =
    let range = to_end (bound end cs (suc j)) in
    if_in (last_has_keys (take (suc j) cs)) (map range (starts_of pattern (take (suc j) cs))) (range (bound end cs i)) (last_keyed cs j h ∙ l)
    (map_in range (starts_of pattern (take (suc j) cs)) (bound end cs i) (starts_in pattern end cs i j a k e))

pub in_found : (pattern : List Key) (end : ℕ) (cs : List Cluster) (n : ℕ) (r : ℕ × ℕ) → n ≤ length cs →
    In (found_within pattern cs end n) r → (s : Spans pattern cs end r) × (s.upto < n)
in_found pattern end cs zero r h k = absurd k
in_found pattern end cs (suc n) r h k =
    elim (in_append (found_within pattern cs end n) (ended pattern (take (suc n) cs) (bound end cs (suc n))) r k) [
      | inl before ↦ let s = in_found pattern end cs n r (omega arith) before in (s.0, omega (arith, s.1))
      | inr last ↦ let s = in_ended pattern end cs n r h last in (s.0, omega (arith, s.1))
    ]

pub found_in : (pattern : List Key) (end : ℕ) (cs : List Cluster) (n i j : ℕ) → n ≤ length cs → i ≤ j → j < n → keyed cs i ≡ true → keyed cs j ≡ true →
    prefix cs (suc j) ≡ prefix cs i ++ pattern → In (found_within pattern cs end n) (bound end cs i, bound end cs (suc j))
found_in pattern end cs zero i j h a b k l e = absurd (omega arith)
found_in pattern end cs (suc n) i j h a b k l e =
    elim (cases_lt j n) [
      | inl before ↦
          in_left (found_within pattern cs end n) (ended pattern (take (suc n) cs) (bound end cs (suc n))) (bound end cs i, bound end cs (suc j))
          (found_in pattern end cs n i j (omega arith) a before k l e)
      | inr last ↦
          let same : j ≡ n = omega arith in
          in_right (found_within pattern cs end n) (ended pattern (take (suc n) cs) (bound end cs (suc n))) (bound end cs i, bound end cs (suc j))
          (subst (λ m. In (ended pattern (take (suc m) cs) (bound end cs (suc m))) (bound end cs i, bound end cs (suc j))) same
          (ended_in pattern end cs i j a (omega arith) k l e))
    ]

-- from fewer keys than the pattern has no range starts
pub starts_short : (pattern : List Key) (cs : List Cluster) → length (joined cs) < length pattern → starts_of pattern cs ≡ []
starts_short pattern [] h = refl
starts_short pattern (c ∷ cs) h =
    elim (cases_Bool (begins pattern c cs)) [
      | inl yes' ↦
          let parts = and_parts (has_keys c) (same_keys (joined (c ∷ cs)) pattern) yes' in
          let e = ap (λ (ks : List Key). length ks) (same_keys-true (joined (c ∷ cs)) pattern parts.1) in
          absurd (omega arith)
      | inr no' ↦
          ap (λ xs. xs ++ starts_of pattern cs) (cond-false (begins pattern c cs) (c.start ∷ []) [] no')
          ∙ starts_short pattern cs (omega (arith, length-append c.keys (joined cs)))
    ]

pub starts_at_most_one : (pattern : List Key) (cs : List Cluster) → length (starts_of pattern cs) ≤ 1
starts_at_most_one pattern [] = omega arith
starts_at_most_one pattern (c ∷ cs) =
    elim (cases_Bool (begins pattern c cs)) [
      | inl yes' ↦
          let parts = and_parts (has_keys c) (same_keys (joined (c ∷ cs)) pattern) yes' in
          let e = ap (λ (ks : List Key). length ks) (same_keys-true (joined (c ∷ cs)) pattern parts.1) in
          let some = ltb-true 0 (length c.keys) parts.0 in
          let none = starts_short pattern cs (omega (arith, e, some, length-append c.keys (joined cs))) in
          let all : starts_of pattern (c ∷ cs) ≡ c.start ∷ [] =
          ap (λ xs. xs ++ starts_of pattern cs) (cond-true (begins pattern c cs) (c.start ∷ []) [] yes') ∙ ap (λ xs. c.start ∷ xs) none in
          omega (arith, ap (λ (xs : List ℕ). length xs) all)
      | inr no' ↦
          let all : starts_of pattern (c ∷ cs) ≡ starts_of pattern cs = ap (λ xs. xs ++ starts_of pattern cs) (cond-false (begins pattern c cs) (c.start ∷ []) [] no') in
          let rest = starts_at_most_one pattern cs in
          omega (arith, rest, ap (λ (xs : List ℕ). length xs) all)
    ]

length-map_to : (end : ℕ) (xs : List ℕ) → length (map (to_end end) xs) ≡ length xs
length-map_to end [] = refl
length-map_to end (x ∷ xs) = ap suc (length-map_to end xs)

pub ended_at_most_one : (pattern : List Key) (cs : List Cluster) (end : ℕ) → length (ended pattern cs end) ≤ 1
ended_at_most_one pattern cs end =
    elim (cases_Bool (last_has_keys cs)) [
      | inl yes' ↦
          let all : ended pattern cs end ≡ map (to_end end) (starts_of pattern cs) = cond-true (last_has_keys cs) (map (to_end end) (starts_of pattern cs)) [] yes' in
          omega (arith, starts_at_most_one pattern cs, ap (λ (xs : List (ℕ × ℕ)). length xs) all, length-map_to end (starts_of pattern cs))
      | inr no' ↦
          let none : ended pattern cs end ≡ [] = cond-false (last_has_keys cs) (map (to_end end) (starts_of pattern cs)) [] no' in
          omega (arith, ap (λ (xs : List (ℕ × ℕ)). length xs) none)
    ]

rising_short : {A : Type 0} (R : A → A → Type 0) (xs : List A) → length xs ≤ 1 → Rising R xs
rising_short R [] h = tt
rising_short R (x ∷ []) h = (λ y k. absurd k, tt)
rising_short R (x ∷ y ∷ xs) h = absurd (omega arith)

-- a later place, where more keys come before
pub later_place : (cs : List Cluster) (i j : ℕ) → length (prefix cs i) < length (prefix cs j) → i < j
later_place cs i j h =
    elim (cases_lt i j) [
      | inl less ↦ less
      | inr more ↦ let grows = prefix_grows cs j i more in absurd (omega arith)
    ]

spans_rise : (pattern : List Key) (end : ℕ) (cs : List Cluster) (r q : ℕ × ℕ) → Rising Below (starts cs ++ end ∷ []) →
    (s : Spans pattern cs end r) → (t : Spans pattern cs end q) → s.upto < t.upto → Before r q
spans_rise pattern end cs r q up s t h =
    let more = prefix_keyed cs t.upto t.upto_keyed in
    let grows = prefix_grows cs (suc s.upto) t.upto h in
    let es = ap (λ (ks : List Key). length ks) s.fits in
    let et = ap (λ (ks : List Key). length ks) t.fits in
    let place = later_place cs s.from t.from
    (omega (arith, more, grows, es, et, length-append (prefix cs s.from) pattern, length-append (prefix cs t.from) pattern)) in
    let rises = bound_rises end cs s.from t.from up place (omega (arith, t.in_order, t.within)) in
    let er : bound end cs s.from ≡ r.0 = ap (λ (p : ℕ × ℕ). p.0) s.is in
    let eq : bound end cs t.from ≡ q.0 = ap (λ (p : ℕ × ℕ). p.0) t.is in
    inl (omega (arith, rises, er, eq))

pub rising_found : (pattern : List Key) (end : ℕ) (cs : List Cluster) (n : ℕ) → n ≤ length cs → Rising Below (starts cs ++ end ∷ []) →
    Rising Before (found_within pattern cs end n)
rising_found pattern end cs zero h up = tt
rising_found pattern end cs (suc n) h up =
    rising_append Before (found_within pattern cs end n) (ended pattern (take (suc n) cs) (bound end cs (suc n)))
    (rising_found pattern end cs n (omega arith) up)
    (rising_short Before (ended pattern (take (suc n) cs) (bound end cs (suc n))) (ended_at_most_one pattern (take (suc n) cs) (bound end cs (suc n))))
    (λ r q hr hq.
    let s = in_found pattern end cs n r (omega arith) hr in
    let t = in_ended pattern end cs n q h hq in
    spans_rise pattern end cs r q up s.0 t.0 (omega (arith, s.1, t.1)))
