-- How a walk by the borders of a pattern goes on: by the start of a cluster, by a key, and to the end.
use Rattle.std.proofs.Common.{◌≡◌, ℕ, zero, suc, ◌+◌, ◌-◌, ◌≤◌, Bool, true, false, cond, not, nat_lt, ◌==◌, List, [], ◌∷◌, ◌++◌, length, take, drop, map, min, slice_get, Some, None, refl, sym, ap, ap₂, ◌∙◌, arith, inl, inr, length-append, append_assoc}
use Rattle.std.proofs.lemmas.Bool.{cond-true, cond-false, cases_Bool, lt-ltb, eqb-true, eq-eqb, ne_eqb}
use Rattle.std.proofs.lemmas.List.{append-nil, map-append, length-map, drop-drop, drop-append-le, length-drop, length-take-le}
use Rattle.std.proofs.lemmas.List.Concat.{flat_map-append}
use Rattle.circular_buffer.specs.Buffer.{keep_last}
use Rattle.collation_elements.specs.declared.keys.Key.{Key}
use Rattle.collation_elements.specs.declared.keys.Item.{Item}
use Rattle.collation_elements.specs.declared.keys.Item.TheVariants.{ClusterStart, Element}
use Rattle.collation_elements.specs.Clusters.{Cluster, clusters_from}
use Rattle.collation_pattern.specs.Border.{same_keys, ends_with_prefix, border_up_to, border}
use Rattle.collation_pattern.specs.Compiled.{Compiled}
use Rattle.collation_walk.specs.declared.walk.Walk.{Walk}
use Rattle.collation_walk.specs.declared.walk.KeyPlace.{KeyPlace}
use Rattle.collation_matches.specs.ByClusters.{PlacedKey}
use Rattle.collation_matches.specs.ByClusters.{text_begin, has_keys, last_has_keys, ended, found, found_before_last, placed, placed_at, range_from, ended_by_keys}
use Rattle.collation_matches.specs.Selecting.{selected, remembered}
use Rattle.collation_walk.specs.Walks.{KeepsWalk, place_of, WalksOver}
use Rattle.collation_pattern.proofs.KeyEquality.{same_keys-same}
use Rattle.collation_matches.proofs.SelectingLemmas.{selected_after, selected-append, selected-nil, remembered-nil}
use Rattle.collation_matches.proofs.BridgeGrowing.{found-more, found-begins, before_last-prefix, before_last-begins}
use Rattle.collation_matches.proofs.BridgeFlat.{ended-by_keys}
use Rattle.collation_matches.proofs.BridgeBorder.{ended-by_border, border_up_to-le}

-- ---- what a walk keeps

pub keeps-on : (pattern : Compiled) (a b c : Walk) → KeepsWalk pattern a b → KeepsWalk pattern b c → KeepsWalk pattern a c
keeps-on pattern a b c first second = record { state = second.state; select = second.select ∙ first.select; room = second.room ∙ first.room }

-- ---- clusters and their keys

last_has_keys-push : (cs : List Cluster) (c : Cluster) → last_has_keys (cs ++ c ∷ []) ≡ has_keys c
last_has_keys-push [] c = refl
last_has_keys-push (d ∷ []) c = refl
last_has_keys-push (d ∷ e ∷ cs) c = last_has_keys-push (e ∷ cs) c

pub placed_at-push : (start : ℕ) (is_first : Bool) (ks : List Key) (k : Key) →
    placed_at start is_first (ks ++ k ∷ []) ≡ placed_at start is_first ks ++ record { key = k; start = start; is_first = cond (nat_lt 0 (length ks)) false is_first } ∷ []
placed_at-push start is_first [] k = refl
placed_at-push start is_first (l ∷ ks) k =
    let some : nat_lt 0 (length (l ∷ ks)) ≡ true = lt-ltb 0 (length (l ∷ ks)) (omega arith) in
    let flag : cond (nat_lt 0 (length (l ∷ ks))) false is_first ≡ false = cond-true (nat_lt 0 (length (l ∷ ks))) false is_first some in
    let later : cond (nat_lt 0 (length ks)) false false ≡ false = same_either (nat_lt 0 (length ks)) in
    ap (λ (rest : List PlacedKey). record { key = l; start = start; is_first = is_first } ∷ rest) (placed_at-push start false ks k)
    ∙ ap (λ b. record { key = l; start = start; is_first = is_first } ∷ (placed_at start false ks ++ record { key = k; start = start; is_first = b } ∷ [])) (later ∙ sym flag)
  where
    same_either : (b : Bool) → cond b false false ≡ false
    same_either true = refl
    same_either false = refl

pub placed-last : (before : List Cluster) (c : Cluster) → placed (before ++ c ∷ []) ≡ placed before ++ placed_at c.start true c.keys
placed-last before c =
    flat_map-append (λ (d : Cluster). placed_at d.start true d.keys) before (c ∷ [])
    ∙ ap (λ (l : List PlacedKey). placed before ++ l) (append-nil (placed_at c.start true c.keys))

pub ended-last : (pattern : List Key) (before : List Cluster) (c : Cluster) (end : ℕ) →
    ended pattern (before ++ c ∷ []) end ≡ cond (has_keys c) (ended_by_keys pattern (placed (before ++ c ∷ [])) end) []
ended-last pattern before c end =
    let last = last_has_keys-push before c in
    elim (cases_Bool (has_keys c)) [
      | inl some ↦
          ended-by_keys pattern (before ++ c ∷ []) end (last ∙ some)
          ∙ sym (cond-true (has_keys c) (ended_by_keys pattern (placed (before ++ c ∷ [])) end) [] some)
      | inr none ↦
          cond-false (last_has_keys (before ++ c ∷ [])) _ [] (last ∙ none)
          ∙ sym (cond-false (has_keys c) (ended_by_keys pattern (placed (before ++ c ∷ [])) end) [] none)
    ]

-- the first of the clusters starts where the one that has begun does
pub clusters_begin : (c : Cluster) (items : List Item) → (ks : List Key) × (cs : List Cluster) × (clusters_from c items ≡ record { start = c.start; keys = ks } ∷ cs)
clusters_begin c [] = (c.keys, [], refl)
clusters_begin c (Element k ∷ items) = clusters_begin (record { start = c.start; keys = c.keys ++ k ∷ [] }) items
clusters_begin c (ClusterStart s ∷ items) =
    let next : Cluster = record { start = s; keys = [] } in
    let test = s == 0 in
    elim (cases_Bool test) [
      | inl zero' ↦
          let r = clusters_begin c items in
          (r.0, r.1, cond-true test (clusters_from c items) (c ∷ clusters_from next items) zero' ∙ r.2)
      | inr further ↦ (c.keys, clusters_from next items, cond-false test (clusters_from c items) (c ∷ clusters_from next items) further)
    ]

-- ---- the places of the last keys

abbrev key_of : PlacedKey → Key
key_of k = k.key

pub keep_last-less : {A : Type 0} (n m : ℕ) (xs : List A) → n ≤ m → keep_last n (keep_last m xs) ≡ keep_last n xs
keep_last-less n m xs less =
    let some = length xs - m in
    let more = length (drop some xs) - n in
    let all : some + more ≡ length xs - n = omega (arith, less, length-drop some xs) in
    drop-drop more some xs ∙ ap (λ i. drop i xs) all

pub keep_last-all : {A : Type 0} (n : ℕ) (xs : List A) → length xs ≤ n → keep_last n xs ≡ xs
keep_last-all n xs few =
    let none : length xs - n ≡ 0 = omega (arith, few) in ap (λ i. drop i xs) none

keep_last-push : {A : Type 0} (n : ℕ) (xs : List A) (x : A) → keep_last (n + 1) (xs ++ x ∷ []) ≡ keep_last n xs ++ x ∷ []
keep_last-push n xs x =
    let some : length (xs ++ x ∷ []) - (n + 1) ≡ length xs - n = omega (arith, length-append xs (x ∷ [])) in
    ap (λ i. drop i (xs ++ x ∷ [])) some ∙ drop-append-le (length xs - n) xs (x ∷ []) (omega arith)

-- one more, of which at most one more is looked at
keep_last-more : {A : Type 0} (n m : ℕ) (xs ys : List A) (x : A) → m ≤ n + 1 → keep_last n xs ≡ keep_last n ys →
    keep_last m (xs ++ x ∷ []) ≡ keep_last m (ys ++ x ∷ [])
keep_last-more {A} n m xs ys x less same =
    sym (keep_last-less m (n + 1) (xs ++ x ∷ []) less)
    ∙ ap (keep_last m) (keep_last-push n xs x ∙ ap (λ (l : List A). l ++ x ∷ []) same ∙ sym (keep_last-push n ys x))
    ∙ keep_last-less m (n + 1) (ys ++ x ∷ []) less

map_drop : (n : ℕ) (ks : List PlacedKey) → map place_of (drop n ks) ≡ drop n (map place_of ks)
map_drop zero ks = refl
map_drop (suc n) [] = refl
map_drop (suc n) (k ∷ ks) = map_drop n ks

-- the range from the place of a key on, if that is the first of its cluster
abbrev pub range_at : List KeyPlace → ℕ → List (ℕ × ℕ)
range_at [] end = []
range_at (p ∷ ps) end = cond p.is_first ((p.start, end) ∷ []) []

pub range_at-none : (ps : List KeyPlace) (end : ℕ) → slice_get ps 0 ≡ None → [] ≡ range_at ps end
range_at-none [] end h = refl
range_at-none (p ∷ ps) end h = cc

pub range_at-first : (ps : List KeyPlace) (p : KeyPlace) (end : ℕ) → slice_get ps 0 ≡ Some p → range_at ps end ≡ cond p.is_first ((p.start, end) ∷ []) []
range_at-first [] p end h = cc
range_at-first (q ∷ qs) p end h = let e : q ≡ p = cc in ap (λ (r : KeyPlace). range_at (r ∷ []) end) e

range-at : (ks : List PlacedKey) (end : ℕ) → range_from ks end ≡ range_at (map place_of ks) end
range-at [] end = refl
range-at (k ∷ ks) end = refl

range_at-last : (pattern : List Key) (ks : List PlacedKey) (end : ℕ) →
    range_from (drop (length ks - length pattern) ks) end ≡ range_at (keep_last (length pattern) (map place_of ks)) end
range_at-last pattern ks end =
    range-at (drop (length ks - length pattern) ks) end
    ∙ ap (λ (ps : List KeyPlace). range_at ps end) (map_drop (length ks - length pattern) ks)
    ∙ ap (λ n. range_at (drop (n - length pattern) (map place_of ks)) end) (sym (length-map ks place_of))

pub border_none : (pattern : List Key) → border pattern [] ≡ 0
border_none pattern = omega (arith, border_up_to-le pattern [] (min (length pattern) 0))

-- ---- how a state grows

border-within : (pattern ks : List Key) → border pattern ks ≤ length pattern
border-within pattern ks = omega (arith, border_up_to-le pattern ks (min (length pattern) (length ks)))

border-few : (pattern ks : List Key) → border pattern ks ≤ length ks
border-few pattern ks = omega (arith, border_up_to-le pattern ks (min (length pattern) (length ks)))

-- so many keys of the pattern's beginning end themselves
border-prefix : (pattern : List Key) (n : ℕ) → n ≤ length pattern → border pattern (take n pattern) ≡ n
border-prefix pattern n within =
    let len : length (take n pattern) ≡ n = length-take-le n pattern within in
    let least : min (length pattern) (length (take n pattern)) ≡ n = omega (arith, len, within) in
    ap (border_up_to pattern (take n pattern)) least ∙ whole n len
  where
    whole : (i : ℕ) → length (take i pattern) ≡ i → border_up_to pattern (take i pattern) i ≡ i
    whole zero len = refl
    whole (suc i) len =
        let ks = take (suc i) pattern in
        let none : length ks - suc i ≡ 0 = omega (arith, len) in
        let ends : ends_with_prefix pattern ks (suc i) ≡ true = ap (λ j. same_keys (drop j ks) ks) none ∙ same_keys-same ks in
        cond-true (ends_with_prefix pattern ks (suc i)) (suc i) (border_up_to pattern ks i) ends

-- by one key more at most
state-grows : (pattern : List Key) (k : Key) (state next : ℕ) → state ≤ length pattern →
    ((ks : List Key) → border pattern ks ≡ state → next ≡ border pattern (ks ++ k ∷ [])) → next ≤ state + 1
state-grows pattern k state next within goes =
    let ks = take state pattern in
    omega (arith, goes ks (border-prefix pattern state within), border-few pattern (ks ++ k ∷ []), length-append ks (k ∷ []), length-take-le state pattern within)

-- ---- the walk

pub walks-new : (pattern : List Key) (w : Walk) → w.state ≡ 0 → w.start ≡ 0 → w.has_keys ≡ false → w.places.items ≡ [] → w.places.capacity ≡ length pattern →
    w.last_end ≡ 0 → WalksOver pattern [] [] w
walks-new pattern w state at none items capacity last =
    record {
      before = [];
      current = text_begin;
      clusters = λ rest. refl;
      start = at;
      has_keys = none;
      state = state ∙ sym (border_none pattern);
      capacity = capacity;
      few = omega (arith, ap length items);
      places = ap (keep_last w.state) items;
      handed_out = sym (selected-nil w.select);
      last_end = last ∙ sym (remembered-nil w.select);
    }

pub walks-within : (pattern : List Key) (items : List Item) (ranges : List (ℕ × ℕ)) (w : Walk) → WalksOver pattern items ranges w → w.state ≤ length pattern
walks-within pattern items ranges w h = omega (arith, h.state, border-within pattern (map key_of (placed (h.before ++ h.current ∷ []))))

-- not more than there are keys
pub walks-few : (pattern : List Key) (items : List Item) (ranges : List (ℕ × ℕ)) (w : Walk) → (h : WalksOver pattern items ranges w) →
    w.state ≤ length (map place_of (placed (h.before ++ h.current ∷ [])))
walks-few pattern items ranges w h =
    let ks = placed (h.before ++ h.current ∷ []) in
    omega (arith, h.state, border-few pattern (map key_of ks), length-map ks key_of, length-map ks place_of)

-- where the whole pattern ends the keys, the places are those of its keys
all_places : {pattern : List Key} {items : List Item} {ranges : List (ℕ × ℕ)} {w : Walk} → (h : WalksOver pattern items ranges w) → w.state ≡ length pattern →
    keep_last (length pattern) (map place_of (placed (h.before ++ h.current ∷ []))) ≡ w.places.items
all_places {pattern} {items} {ranges} {w} h whole =
    let ps = map place_of (placed (h.before ++ h.current ∷ [])) in
    ap (λ n. keep_last n ps) (sym whole) ∙ sym h.places ∙ keep_last-all w.state w.places.items (omega (arith, whole, h.few))

cond_same : (b : Bool) (xs ys : List (ℕ × ℕ)) → (b ≡ true → xs ≡ ys) → cond b xs [] ≡ cond b ys []
cond_same true xs ys h = h refl
cond_same false xs ys h = refl

-- the ranges that end with the clusters that have ended
abbrev pub found_before : {pattern : List Key} {items : List Item} {ranges : List (ℕ × ℕ)} {w : Walk} → (h : WalksOver pattern items ranges w) → List (ℕ × ℕ)
found_before {pattern} h = found pattern h.before h.current.start

-- the range that ends with the current cluster if that ends there
pub ended_at : {pattern : List Key} {items : List Item} {ranges : List (ℕ × ℕ)} {w : Walk} → (h : WalksOver pattern items ranges w) → (end : ℕ) →
    ended pattern (h.before ++ h.current ∷ []) end ≡ cond w.has_keys (cond (w.state == length pattern) (range_at w.places.items end) []) []
ended_at {pattern} {items} {ranges} {w} h end =
    let ks = placed (h.before ++ h.current ∷ []) in
    let ends : ended_by_keys pattern ks end ≡ cond (w.state == length pattern) (range_at w.places.items end) [] =
    ended-by_border pattern ks end
    ∙ ap (λ n. cond (n == length pattern) (range_from (drop (length ks - length pattern) ks) end) []) (sym h.state)
    ∙ ap (λ (rs : List (ℕ × ℕ)). cond (w.state == length pattern) rs []) (range_at-last pattern ks end)
    ∙ cond_same (w.state == length pattern) (range_at (keep_last (length pattern) (map place_of ks)) end) (range_at w.places.items end)
    (λ whole. ap (λ (ps : List KeyPlace). range_at ps end) (all_places h (eqb-true w.state (length pattern) whole))) in
    ended-last pattern h.before h.current end
    ∙ ap (λ b. cond b (ended_by_keys pattern ks end) []) (sym h.has_keys)
    ∙ ap (λ (rs : List (ℕ × ℕ)). cond w.has_keys rs []) ends

-- the ranges that are found then
ranges_at : {pattern : List Key} {items : List Item} {ranges : List (ℕ × ℕ)} {w : Walk} → (h : WalksOver pattern items ranges w) → (end : ℕ) →
    found pattern (h.before ++ h.current ∷ []) end ≡ found_before h ++ cond w.has_keys (cond (w.state == length pattern) (range_at w.places.items end) []) []
ranges_at {pattern} h end = found-more pattern h.before h.current end ∙ ap (λ (rs : List (ℕ × ℕ)). found_before h ++ rs) (ended_at h end)

pub all_clusters : {pattern : List Key} {items : List Item} {ranges : List (ℕ × ℕ)} {w : Walk} → (h : WalksOver pattern items ranges w) →
    clusters_from text_begin items ≡ h.before ++ h.current ∷ []
all_clusters {pattern} {items} h = ap (clusters_from text_begin) (sym (append-nil items)) ∙ h.clusters []

pub walks-end : (pattern : List Key) (items : List Item) (ranges : List (ℕ × ℕ)) (w : Walk) (end : ℕ) (last : List (ℕ × ℕ)) →
    last ≡ cond w.has_keys (cond (w.state == length pattern) (range_at w.places.items end) []) [] →
    (h : WalksOver pattern items ranges w) → found_before h ++ last ≡ found pattern (clusters_from text_begin items) end
walks-end pattern items ranges w end last e h =
    ap (λ (rs : List (ℕ × ℕ)). found_before h ++ rs) e ∙ sym (ap (λ (cs : List Cluster). found pattern cs end) (all_clusters h) ∙ ranges_at h end)

-- without keys the cluster ends no range, and none is ended where not all of the pattern ends the keys
pub walks-end_keyless : (pattern : List Key) (items : List Item) (ranges : List (ℕ × ℕ)) (w : Walk) (end : ℕ) → w.has_keys ≡ false →
    (h : WalksOver pattern items ranges w) → found_before h ++ [] ≡ found pattern (clusters_from text_begin items) end
walks-end_keyless pattern items ranges w end none =
    walks-end pattern items ranges w end []
    (sym (cond-false w.has_keys (cond (w.state == length pattern) (range_at w.places.items end) []) [] none))

pub walks-end_short : (pattern : List Key) (items : List Item) (ranges : List (ℕ × ℕ)) (w : Walk) (end : ℕ) → (w.state ≡ length pattern → ⊥) →
    (h : WalksOver pattern items ranges w) → found_before h ++ [] ≡ found pattern (clusters_from text_begin items) end
walks-end_short pattern items ranges w end short =
    walks-end pattern items ranges w end []
    (sym (ap (λ (rs : List (ℕ × ℕ)). cond w.has_keys rs []) (cond-false (w.state == length pattern) (range_at w.places.items end) [] (ne_eqb w.state (length pattern) short))
    ∙ nothing w.has_keys))
  where
    nothing : (b : Bool) → ◌≡◌ {A = List (ℕ × ℕ)} (cond b [] []) []
    nothing true = refl
    nothing false = refl

pub walks-end_whole : (pattern : List Key) (items : List Item) (ranges : List (ℕ × ℕ)) (w : Walk) (end : ℕ) (last : List (ℕ × ℕ)) → w.has_keys ≡ true → w.state ≡ length pattern →
    last ≡ range_at w.places.items end → (h : WalksOver pattern items ranges w) → found_before h ++ last ≡ found pattern (clusters_from text_begin items) end
walks-end_whole pattern items ranges w end last some whole e =
    walks-end pattern items ranges w end last
    (e ∙ sym (cond-true (w.state == length pattern) (range_at w.places.items end) [] (eq-eqb w.state (length pattern) whole))
    ∙ sym (cond-true w.has_keys (cond (w.state == length pattern) (range_at w.places.items end) []) [] some))

-- what is handed out of the ranges that end there
pub walks-select : (pattern : List Key) (items : List Item) (ranges last : List (ℕ × ℕ)) (w : Walk) (end : ℕ) → (h : WalksOver pattern items ranges w) →
    found_before h ++ last ≡ found pattern (clusters_from text_begin items) end →
    ranges ++ selected_after w.select w.last_end last ≡ selected w.select (found pattern (clusters_from text_begin items) end)
walks-select pattern items ranges last w end h all =
    let handed = h.handed_out in
    ap (λ (rs : List (ℕ × ℕ)). rs ++ selected_after w.select w.last_end last) handed
    ∙ ap (λ n. selected w.select (found_before h) ++ selected_after w.select n last) (h.last_end ∙ ap (remembered w.select) handed)
    ∙ sym (selected-append w.select (found_before h) last)
    ∙ ap (selected w.select) all

-- an item that the text's clusters pass over
pub walks-zero : (pattern : List Key) (items : List Item) (ranges : List (ℕ × ℕ)) (w : Walk) → WalksOver pattern items ranges w →
    WalksOver pattern (items ++ ClusterStart 0 ∷ []) (ranges ++ []) w
walks-zero pattern items ranges w h =
    record {
      before = h.before;
      current = h.current;
      clusters = λ rest. ap (clusters_from text_begin) (append_assoc items (ClusterStart 0 ∷ []) rest) ∙ h.clusters (ClusterStart 0 ∷ rest);
      start = h.start;
      has_keys = h.has_keys;
      state = h.state;
      capacity = h.capacity;
      few = h.few;
      places = h.places;
      handed_out = append-nil ranges ∙ h.handed_out;
      last_end = h.last_end ∙ sym (ap (remembered w.select) (append-nil ranges));
    }

pub walks-start : (pattern : List Key) (items : List Item) (ranges last : List (ℕ × ℕ)) (s : ℕ) (w v : Walk) → WalksOver pattern items ranges w → (s == 0) ≡ false →
    v.start ≡ s → v.has_keys ≡ false → v.state ≡ w.state → v.places ≡ w.places → v.select ≡ w.select →
    v.last_end ≡ remembered w.select (ranges ++ last) → ranges ++ last ≡ selected w.select (found pattern (clusters_from text_begin items) s) → WalksOver pattern (items ++ ClusterStart s ∷ []) (ranges ++ last) v
walks-start pattern items ranges last s w v h after at none state places select last_end handed =
    let next : Cluster = record { start = s; keys = [] } in
    let same : placed (h.before ++ h.current ∷ []) ≡ placed ((h.before ++ h.current ∷ []) ++ next ∷ []) =
    sym (placed-last (h.before ++ h.current ∷ []) next ∙ append-nil (placed (h.before ++ h.current ∷ []))) in
    record {
      before = h.before ++ h.current ∷ [];
      current = next;
      clusters = λ rest.
          ap (clusters_from text_begin) (append_assoc items (ClusterStart s ∷ []) rest) ∙ h.clusters (ClusterStart s ∷ rest)
          ∙ ap (λ (cs : List Cluster). h.before ++ cs) (cond-false (s == 0) (clusters_from h.current rest) (h.current ∷ clusters_from next rest) after)
          ∙ sym (append_assoc h.before (h.current ∷ []) (clusters_from next rest));
      start = at;
      has_keys = none;
      state = state ∙ h.state ∙ ap (λ (ks : List PlacedKey). border pattern (map key_of ks)) same;
      capacity = ap (λ b. b.capacity) places ∙ h.capacity;
      few = omega (arith, ap (λ b. length b.items) places, h.few);
      places = ap (λ n. keep_last n v.places.items) state ∙ ap (λ b. keep_last w.state b.items) places ∙ h.places
          ∙ ap (λ (ks : List PlacedKey). keep_last w.state (map place_of ks)) same
          ∙ sym (ap (λ n. keep_last n (map place_of (placed ((h.before ++ h.current ∷ []) ++ next ∷ [])))) state);
      handed_out = handed ∙ ap (λ (cs : List Cluster). selected w.select (found pattern cs s)) (all_clusters h)
          ∙ sym (ap (λ t. selected t (found pattern (h.before ++ h.current ∷ []) s)) select);
      last_end = last_end ∙ sym (ap (λ t. remembered t (ranges ++ last)) select);
    }

pub walks-key : (pattern : List Key) (items : List Item) (ranges : List (ℕ × ℕ)) (k : Key) (w v : Walk) → WalksOver pattern items ranges w →
    v.start ≡ w.start → v.has_keys ≡ true →
    ((ks : List Key) → border pattern ks ≡ w.state → v.state ≡ border pattern (ks ++ k ∷ [])) →
    v.places.capacity ≡ w.places.capacity → v.select ≡ w.select → v.last_end ≡ w.last_end →
    v.places.items ≡ keep_last w.places.capacity (w.places.items ++ record { start = w.start; is_first = not w.has_keys } ∷ []) →
    WalksOver pattern (items ++ Element k ∷ []) (ranges ++ []) v
walks-key pattern items ranges k w v h at some state capacity select last_end places =
    let longer : Cluster = record { start = h.current.start; keys = h.current.keys ++ k ∷ [] } in
    let ks = placed (h.before ++ h.current ∷ []) in
    let flag : (b : Bool) → not b ≡ cond b false true = elim [ true ↦ refl | false ↦ refl ] in
    let first = cond (has_keys h.current) false true in
    let new : PlacedKey = record { key = k; start = h.current.start; is_first = first } in
    let all : ks ++ new ∷ [] ≡ placed (h.before ++ longer ∷ []) =
    ap (λ (l : List PlacedKey). l ++ new ∷ []) (placed-last h.before h.current)
    ∙ append_assoc (placed h.before) (placed_at h.current.start true h.current.keys) (new ∷ [])
    ∙ ap (λ (l : List PlacedKey). placed h.before ++ l) (sym (placed_at-push h.current.start true h.current.keys k))
    ∙ sym (placed-last h.before longer) in
    let place : KeyPlace = record { start = w.start; is_first = not w.has_keys } in
    let same_place : place ≡ place_of new =
    ap (λ n. record { start = n; is_first = not w.has_keys }) h.start
    ∙ ap (λ b. record { start = h.current.start; is_first = b }) (ap not h.has_keys ∙ flag (has_keys h.current)) in
    let more = w.places.items ++ place ∷ [] in
    let kept : v.places.items ≡ keep_last (length pattern) more = places ∙ ap (λ n. keep_last n more) h.capacity in
    let next_state : v.state ≡ border pattern (map key_of ks ++ k ∷ []) = state (map key_of ks) (sym h.state) in
    record {
      before = h.before;
      current = longer;
      clusters = λ rest. ap (clusters_from text_begin) (append_assoc items (Element k ∷ []) rest) ∙ h.clusters (Element k ∷ rest);
      start = at ∙ h.start;
      has_keys = some ∙ sym (lt-ltb 0 (length longer.keys) (omega (arith, length-append h.current.keys (k ∷ []))));
      state = next_state
          ∙ ap (border pattern) (sym (map-append key_of ks (new ∷ []))) ∙ ap (λ (l : List PlacedKey). border pattern (map key_of l)) all;
      capacity = capacity ∙ h.capacity;
      few = omega (arith, ap length kept, length-drop (length more - length pattern) more);
      places = ap (keep_last v.state) kept
          ∙ keep_last-less v.state (length pattern) more (omega (arith, next_state, border-within pattern (map key_of ks ++ k ∷ [])))
          ∙ keep_last-more w.state v.state w.places.items (map place_of ks) place
          (state-grows pattern k w.state v.state (walks-within pattern items ranges w h) state) h.places
          ∙ ap (λ (p : KeyPlace). keep_last v.state (map place_of ks ++ p ∷ [])) same_place
          ∙ ap (keep_last v.state) (sym (map-append place_of ks (new ∷ [])))
          ∙ ap (λ (l : List PlacedKey). keep_last v.state (map place_of l)) all;
      handed_out = append-nil ranges ∙ h.handed_out ∙ sym (ap (λ t. selected t (found_before h)) select);
      last_end = last_end ∙ h.last_end ∙ sym (ap₂ remembered select (append-nil ranges));
    }

-- ---- what the ranges that were handed out are

-- those that end with a cluster but the last one of the items so far
pub walks-settled : (pattern : List Key) (items : List Item) (ranges : List (ℕ × ℕ)) (w : Walk) (end : ℕ) → WalksOver pattern items ranges w →
    ranges ≡ selected w.select (found_before_last pattern (clusters_from text_begin items) end)
walks-settled pattern items ranges w end h =
    h.handed_out
    ∙ sym (ap (selected w.select) (ap (λ (cs : List Cluster). found_before_last pattern cs end) (all_clusters h) ∙ before_last-prefix pattern h.before h.current end))

-- whatever items follow, the ranges of the clusters that have ended begin those that are found, also those that end before the
-- last cluster
pub walks-begin : (pattern : List Key) (items : List Item) (ranges : List (ℕ × ℕ)) (w : Walk) (following : List Item) (end : ℕ) → (h : WalksOver pattern items ranges w) →
    (rest : List (ℕ × ℕ)) × (found pattern (clusters_from text_begin (items ++ following)) end ≡ found_before h ++ rest)
walks-begin pattern items ranges w following end h =
    let first = clusters_begin h.current following in
    let c : Cluster = record { start = h.current.start; keys = first.0 } in
    let all = h.clusters following ∙ ap (λ (cs : List Cluster). h.before ++ cs) first.2 in
    let begins = found-begins pattern h.before c first.1 end in (
      begins.0,
      ap (λ (cs : List Cluster). found pattern cs end) all ∙ begins.1,
    )

pub walks-begin_settled : (pattern : List Key) (items : List Item) (ranges : List (ℕ × ℕ)) (w : Walk) (following : List Item) (end : ℕ) → (h : WalksOver pattern items ranges w) →
    (rest : List (ℕ × ℕ)) × (found_before_last pattern (clusters_from text_begin (items ++ following)) end ≡ found_before h ++ rest)
walks-begin_settled pattern items ranges w following end h =
    let first = clusters_begin h.current following in
    let c : Cluster = record { start = h.current.start; keys = first.0 } in
    let all = h.clusters following ∙ ap (λ (cs : List Cluster). h.before ++ cs) first.2 in
    let begins = before_last-begins pattern h.before c first.1 end in (
      begins.0,
      ap (λ (cs : List Cluster). found_before_last pattern cs end) all ∙ begins.1,
    )

-- and what was handed out begins what is handed out of more ranges
pub walks-select_begin : (pattern : List Key) (items : List Item) (ranges : List (ℕ × ℕ)) (w : Walk) (all : List (ℕ × ℕ)) → (h : WalksOver pattern items ranges w) →
    (rest : List (ℕ × ℕ)) × (all ≡ found_before h ++ rest) → (rest : List (ℕ × ℕ)) × (selected w.select all ≡ ranges ++ rest)
walks-select_begin pattern items ranges w all h more =
    let later = selected_after w.select (remembered w.select (selected w.select (found_before h))) more.0 in (
      later,
      ap (selected w.select) more.1 ∙ selected-append w.select (found_before h) more.0 ∙ ap (λ (rs : List (ℕ × ℕ)). rs ++ later) (sym h.handed_out),
    )
