-- Matches between boundaries, which compare sort keys, are the ranges found cluster by cluster, which compare keys: given
-- that the boundaries are the places where clusters start, that a part between them has their keys, and that equal sort
-- keys are equal keys.
use Rattle.std.proofs.Common.{◌≡◌, ℕ, zero, suc, ◌-◌, ◌<◌, ◌≤◌, Bool, true, false, nat_lt, List, [], ◌∷◌, ◌++◌, length, get_or, take, drop, filter, bytes_eq, refl, sym, ap, ◌∙◌, subst, arith, inl, inr}
use Rattle.std.proofs.lemmas.Bool.{cond-true, cond-false, lt-ltb, le-ltb}
use Rattle.std.proofs.lemmas.List.{append_assoc, append_cancel_left, append-nil, take-append-drop}
use Rattle.std.specs.Bool.{Decides}
use Rattle.std.specs.Str.{IsUtf8, chars}
use Rattle.nfd_points.specs.Points.{points, points_from, ordered}
use Rattle.std.proofs.lemmas.Slice.Eq.{bytes_eq-Decides}
use Rattle.std.proofs.lemmas.List.Elements.{filter-append}
use Rattle.collation_table.specs.Table.{TableMap}
use Rattle.collation_elements.specs.declared.settings.Variable.{Variable}
use Rattle.collation_elements.specs.declared.settings.Strength.{Strength}
use Rattle.collation_elements.specs.declared.keys.Key.{Key}
use Rattle.collation_elements.specs.Boundaries.{boundaries, offsets_to, is_boundary, cluster_starts}
use Rattle.collation_elements.specs.Clusters.{Cluster, clusters, starts, start_or, joined}
use Rattle.collation_pattern.specs.SortKey.{text_sort_key}
use Rattle.collation_pattern.specs.Levels.{text_keys}
use Rattle.collation_pattern.specs.KeyLaw.{KeyLaw}
use Rattle.collation_elements.specs.Context.{BoundariesAreStarts, PartsHaveTheKeysOfClusters, PartsAreTexts}
use Rattle.collation_matches.specs.Matches.{ranges_among, part, minimal, matches, settled}
use Rattle.collation_matches.specs.ByClusters.{ended, found, found_within, found_before_last}
use Rattle.std.proofs.lemmas.Map.Keys.{sorted_from_strictly_increasing, below_from_sorted}
use Rattle.collation_matches.specs.ByClustersLaws.{minimal_ranges_are_found, matches_are_found, settled_are_found, items_give_ranges}
use Rattle.collation_matches.proofs.BridgeLists.{In, Rising, in_append, rising_append, rising_filter}
use Rattle.collation_matches.proofs.BridgeRanges.{Below}
use Rattle.collation_matches.proofs.BridgeClusters.{bound, prefix, bound_rises}
use Rattle.collation_matches.proofs.BridgeFound.{in_found, in_ended}
use Rattle.collation_matches.proofs.BridgeMinimal.{Tests, minimal-found}

-- ---- the clusters between two places

pub record IsSplitInside (cs : List Cluster) (i j : ℕ) : Type 0 where
  pub inside : List Cluster
  pub whole : cs ≡ take i cs ++ (inside ++ drop j cs)
  pub rest : inside ++ drop j cs ≡ drop i cs
  pub keys : prefix cs j ≡ prefix cs i ++ joined inside

pub split : (cs : List Cluster) (i j : ℕ) → i ≤ j → IsSplitInside cs i j
split cs zero j h = record { inside = take j cs; whole = sym (take-append-drop j cs); rest = take-append-drop j cs; keys = refl }
split [] (suc i) zero h = absurd (omega arith)
split [] (suc i) (suc j) h = record { inside = []; whole = refl; rest = refl; keys = refl }
split (c ∷ cs) (suc i) zero h = absurd (omega arith)
split (c ∷ cs) (suc i) (suc j) h =
    let s = split cs i j (omega arith) in
    record {
      inside = s.inside;
      whole = ap (λ (ds : List Cluster). c ∷ ds) s.whole;
      rest = s.rest;
      keys = ap (λ ks. c.keys ++ ks) s.keys ∙ sym (append_assoc c.keys (prefix cs i) (joined s.inside));
    }

-- ---- boundaries rise

pub below_offsets : (n x : ℕ) → In (offsets_to n) x → x ≤ n
below_offsets zero x (inl e) = omega arith
below_offsets zero x (inr h) = absurd h
below_offsets (suc n) x h =
    elim (in_append (offsets_to n) (suc n ∷ []) x h) [
      | inl lower ↦ let le = below_offsets n x lower in omega arith
      | inr last ↦ elim last [ inl e ↦ omega arith | inr none ↦ absurd none ]
    ]

rising_offsets : (n : ℕ) → Rising Below (offsets_to n)
rising_offsets zero = (λ y h. absurd h, tt)
rising_offsets (suc n) =
    rising_append Below (offsets_to n) (suc n ∷ []) (rising_offsets n) (λ y h. absurd h, tt)
    (λ x y hx hy.
    let le = below_offsets n x hx in
    let last : suc n ≡ y = elim hy [ inl e ↦ e | inr none ↦ absurd none ] in
    omega arith)

pub rising_boundaries : (table : TableMap) (text : List ℕ) → Rising Below (boundaries table text)
rising_boundaries table text =
    rising_filter Below (is_boundary (cluster_starts table (points (chars text))) (length text)) (offsets_to (length text)) (rising_offsets (length text))

-- ---- the ranges that end before the end

filter_all : {A : Type 0} (p : A → Bool) (xs : List A) → ((x : A) → In xs x → p x ≡ true) → filter p xs ≡ xs
filter_all p [] h = refl
filter_all p (x ∷ xs) h =
    cond-true (p x) (x ∷ filter p xs) (filter p xs) (h x (inl refl)) ∙ ap (λ ys. x ∷ ys) (filter_all p xs (λ y k. h y (inr k)))

filter_none : {A : Type 0} (p : A → Bool) (xs : List A) → ((x : A) → In xs x → p x ≡ false) → filter p xs ≡ []
filter_none p [] h = refl
filter_none p (x ∷ xs) h =
    cond-false (p x) (x ∷ filter p xs) (filter p xs) (h x (inl refl)) ∙ filter_none p xs (λ y k. h y (inr k))

bound_end : (end : ℕ) (cs : List Cluster) → bound end cs (length cs) ≡ end
bound_end end [] = refl
bound_end end (c ∷ cs) = bound_end end cs

abbrev ends_before : ℕ → ℕ × ℕ → Bool
ends_before end range = nat_lt range.1 end

settled_at : (pattern : List Key) (end : ℕ) (cs : List Cluster) (n : ℕ) → Rising Below (starts cs ++ end ∷ []) → length cs ≡ n →
    filter (ends_before end) (found_within pattern cs end n) ≡ found_within pattern cs end (n - 1)
settled_at pattern end cs zero up len = let e : 0 - 1 ≡ 0 = omega arith in ap (found_within pattern cs end) (sym e)
settled_at pattern end cs (suc n) up len =
    let last = ended pattern (take (suc n) cs) (bound end cs (suc n)) in
    let is_end : bound end cs (suc n) ≡ end = ap (bound end cs) (sym len) ∙ bound_end end cs in
    let e : suc n - 1 ≡ n = omega arith in
    filter-append (ends_before end) (found_within pattern cs end n) last
    ∙ ap (λ (rs : List (ℕ × ℕ)). rs ++ filter (ends_before end) last)
    (filter_all (ends_before end) (found_within pattern cs end n) (λ r h.
    let s = in_found pattern end cs n r (omega (arith, len)) h in
    let rises = bound_rises end cs (suc (s.0).upto) (suc n) up (omega (arith, s.1)) (omega (arith, len)) in
    let at : bound end cs (suc (s.0).upto) ≡ r.1 = ap (λ (q : ℕ × ℕ). q.1) (s.0).is in
    lt-ltb r.1 end (omega (arith, rises, at, is_end))))
    ∙ ap (λ (rs : List (ℕ × ℕ)). found_within pattern cs end n ++ rs)
    (filter_none (ends_before end) last (λ r h.
    let s = in_ended pattern end cs n r (omega (arith, len)) h in
    let at : bound end cs (suc (s.0).upto) ≡ r.1 = ap (λ (q : ℕ × ℕ). q.1) (s.0).is in
    let same = ap (λ i. bound end cs (suc i)) s.1 in
    le-ltb r.1 end (omega (arith, at, same, is_end))))
    ∙ append-nil (found_within pattern cs end n)
    ∙ ap (found_within pattern cs end) (sym e)

pub settled-found : (pattern : List Key) (end : ℕ) (cs : List Cluster) → Rising Below (starts cs ++ end ∷ []) →
    filter (ends_before end) (found pattern cs end) ≡ found_before_last pattern cs end
settled-found pattern end cs up = settled_at pattern end cs (length cs) up refl

-- ---- over any clusters

place_of : (xs : List ℕ) (y : ℕ) → In xs y → (k : ℕ) × (k < length xs) × (get_or xs k 0 ≡ y)
place_of [] y h = absurd h
place_of (x ∷ xs) y (inl e) = (0, omega arith, e)
place_of (x ∷ xs) y (inr h) = let r = place_of xs y h in (suc r.0, omega (arith, r.1), r.2)

rising_from : (xs : List ℕ) → ((i j : ℕ) → i < j → j < length xs → get_or xs i 0 < get_or xs j 0) → Rising Below xs
rising_from [] h = tt
rising_from (x ∷ xs) h = (
  λ y k. let p = place_of xs y k in
      let less : x < get_or xs p.0 0 = h 0 (suc p.0) (omega arith) (omega (arith, p.1)) in
      omega (arith, less, p.2),
  rising_from xs (λ i j a b. h (suc i) (suc j) (omega arith) (omega arith)),
)

abbrev TestsSplits : (ℕ × ℕ → Bool) → List Key → List Cluster → ℕ → Type 0
TestsSplits test pattern cs end =
    (before inside after : List Cluster) → cs ≡ before ++ (inside ++ after) →
    Decides (test (start_or end (inside ++ after), start_or end after)) (joined inside ≡ pattern)

tests_from : (test : ℕ × ℕ → Bool) (pattern : List Key) (cs : List Cluster) (end : ℕ) → TestsSplits test pattern cs end → Tests test pattern cs end
tests_from test pattern cs end h i j le w =
    let s = split cs i j le in
    let starts_at : start_or end (s.inside ++ drop j cs) ≡ bound end cs i = ap (start_or end) s.rest in
    let decides : Decides (test (bound end cs i, bound end cs j)) (joined s.inside ≡ pattern) =
    subst (λ b. Decides (test (b, bound end cs j)) (joined s.inside ≡ pattern)) starts_at (h (take i cs) s.inside (drop j cs) s.whole) in (
      λ t. s.keys ∙ ap (λ ks. prefix cs i ++ ks) (decides.0 t),
      λ e. decides.1 (append_cancel_left (prefix cs i) (joined s.inside) pattern (sym s.keys ∙ e)),
    )

pub minimal-found_by_clusters : minimal_ranges_are_found
minimal-found_by_clusters test pattern cs end some up tested =
    let sorted = sorted_from_strictly_increasing (starts cs ++ end ∷ []) up in
    minimal-found test pattern cs end some
    (rising_from (starts cs ++ end ∷ []) (λ i j a b. below_from_sorted (starts cs ++ end ∷ []) i j 0 sorted a b))
    (tests_from test pattern cs end tested)

-- ---- the bridge

module _ (bounded : BoundariesAreStarts) (part_keys : PartsHaveTheKeysOfClusters) (part_texts : PartsAreTexts)
    (table : TableMap) (key_law : KeyLaw table) (strength : Strength) (variable : Variable) (pattern text : List ℕ)
    (pattern_is_text : IsUtf8 pattern) (is_text : IsUtf8 text) (some : 0 < length (text_keys table strength variable pattern))
  where
    abbrev cs : List Cluster
    cs = clusters table strength variable text

    abbrev end : ℕ
    end = length text

    abbrev keys_of_pattern : List Key
    keys_of_pattern = text_keys table strength variable pattern

    abbrev test : ℕ × ℕ → Bool
    test range = bytes_eq (text_sort_key table strength variable (part text range)) (text_sort_key table strength variable pattern)

    splits : TestsSplits test keys_of_pattern cs end
    splits before inside after whole =
        let range : ℕ × ℕ = (start_or end (inside ++ after), start_or end after) in
        let decides = bytes_eq-Decides (text_sort_key table strength variable (part text range)) (text_sort_key table strength variable pattern) in
        let law = key_law strength variable (part text range) pattern (part_texts table strength variable text before inside after is_text whole) pattern_is_text in
        let there = part_keys table strength variable text before inside after is_text whole in
        (λ h. sym there ∙ law.0 (decides.0 h), λ e. decides.1 (law.1 (there ∙ e)))

    up : Rising Below (starts cs ++ end ∷ [])
    up = subst (Rising Below) (bounded table strength variable text is_text) (rising_boundaries table text)

    matches-found : matches table strength variable pattern text ≡ found keys_of_pattern cs end
    matches-found =
        ap (λ bs. minimal (filter test (ranges_among bs))) (bounded table strength variable text is_text) ∙ minimal-found test keys_of_pattern cs end some up (tests_from test keys_of_pattern cs end splits)

    settled-before_last : settled table strength variable pattern text ≡ found_before_last keys_of_pattern cs end
    settled-before_last =
        ap (λ (rs : List (ℕ × ℕ)). filter (ends_before end) rs) matches-found ∙ settled-found keys_of_pattern end cs up

pub matches-are_found : BoundariesAreStarts → PartsHaveTheKeysOfClusters → PartsAreTexts → (table : TableMap) → KeyLaw table → matches_are_found table
matches-are_found bounded part_keys part_texts table key_law strength variable pattern text p t some =
    matches-found bounded part_keys part_texts table key_law strength variable pattern text p t some

pub settled-are_found : BoundariesAreStarts → PartsHaveTheKeysOfClusters → PartsAreTexts → (table : TableMap) → KeyLaw table → settled_are_found table
settled-are_found bounded part_keys part_texts table key_law strength variable pattern text p t some =
    settled-before_last bounded part_keys part_texts table key_law strength variable pattern text p t some

pub items-give_ranges : (table : TableMap) → items_give_ranges table
unfolding chars points_from ordered
items-give_ranges table strength variable pattern [] e = (refl, refl)
items-give_ranges table strength variable pattern (b ∷ bs) e = (refl, refl)
