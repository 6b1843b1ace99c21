-- A match that ends where a text ends: the greatest start is where the last minimal match begins, or there is none.
use Rattle.std.specs.Str.{IsUtf8}
use Rattle.std.proofs.Common.{◌≡◌, ◌∙◌, ℕ, zero, suc, ◌+◌, ◌-◌, ◌<◌, ◌≤◌, ◌==◌, Bool, true, false, List, [], ◌∷◌, ◌++◌, length, take, drop, filter, bytes_eq, Option, Some, None, refl, sym, ap, subst, arith, inl, inr, length-append, length-drop, ltb-true, nat_lt}
use Rattle.std.specs.List.{list_any}
use Rattle.std.specs.Option.{option_map}
use Rattle.std.proofs.lemmas.Bool.{cases_Bool, cond-true, cond-false, eqb-true, eqb-false, eq-eqb, ltb-false}
use Rattle.std.proofs.lemmas.List.{append-nil, append_cancel_left, take_all}
use Rattle.std.proofs.lemmas.Slice.Eq.{bytes_eq-Decides}
use Rattle.collation_table.specs.Table.{TableMap}
use Rattle.collation_elements.specs.declared.keys.Key.{Key}
use Rattle.collation_elements.specs.declared.settings.Variable.{Variable}
use Rattle.collation_elements.specs.declared.settings.Strength.{Strength}
use Rattle.collation_elements.specs.Boundaries.{boundaries}
use Rattle.collation_elements.specs.Clusters.{Cluster, clusters, starts, start_or, joined}
use Rattle.collation_elements.specs.Context.{BoundariesAreStarts, PartsHaveTheKeysOfClusters, PartsAreTexts}
use Rattle.collation_pattern.specs.KeyLaw.{KeyLaw}
use Rattle.collation_pattern.specs.Levels.{text_keys}
use Rattle.collation_pattern.specs.SortKey.{text_sort_key}
use Rattle.collation_matches.specs.Matches.{ranges_among, part, minimal, is_within}
use Rattle.collation_matches.proofs.BridgeLists.{In, Rising, in_filter, filter_in, rising_filter, any_in, in_any}
use Rattle.collation_matches.proofs.BridgeRanges.{Below, Before, in_ranges, ranges_in, rising_ranges, rising_minimal, is_within-true, in_minimal, minimal_in}
use Rattle.collation_matches.proofs.BridgeClusters.{bound, prefix, in_bounds, bound_in, bound_rises, prefix_grows}
use Rattle.collation_matches.proofs.BridgeMatches.{split, rising_boundaries}
use Rattle.collation_anchored.specs.Anchored.{all_matches, is_equal, last_of, ends}
use Rattle.collation_anchored.specs.Laws.{start_of_equal, EndsByLastRange}
use Rattle.collation_anchored.proofs.CompletedTexts.{bound_end}
use Rattle.collation_anchored.proofs.EqualTexts.{end_is_boundary, equal_is, equal_from}

-- ---- the last of some ranges

record Last (ranges : List (ℕ × ℕ)) (range : ℕ × ℕ) : Type 0 where
  pub last : ℕ × ℕ
  pub is : last_of ranges ≡ Some last
  pub there : In ranges last
  pub after : range.0 ≤ last.0

last_among : (ranges : List (ℕ × ℕ)) (range : ℕ × ℕ) → Rising Before ranges → In ranges range → Last ranges range
last_among [] range up h = absurd h
last_among (r ∷ []) range up (inl e) = let start = ap (λ (q : ℕ × ℕ). q.0) e in record { last = r; is = refl; there = inl refl; after = omega (arith, start) }
last_among (r ∷ []) range up (inr h) = absurd h
last_among (r ∷ s ∷ rs) range up (inl e) =
    let later = last_among (s ∷ rs) s up.1 (inl refl) in
    let rises = up.0 s (inl refl) in
    let start = ap (λ (q : ℕ × ℕ). q.0) e in
    let following = later.after in
    record { last = later.last; is = later.is; there = inr later.there; after = elim rises [ inl lower ↦ omega (arith, start, following) | inr same ↦ omega (arith, start, following) ] }
last_among (r ∷ s ∷ rs) range up (inr h) =
    let later = last_among (s ∷ rs) range up.1 h in
    record { last = later.last; is = later.is; there = inr later.there; after = later.after }

last_in : (ranges : List (ℕ × ℕ)) (range : ℕ × ℕ) → last_of ranges ≡ Some range → In ranges range
last_in [] range h = cc
last_in (r ∷ []) range h = let same : r ≡ range = cc in inl same
last_in (r ∷ s ∷ rs) range h = inr (last_in (s ∷ rs) range h)

-- ---- a minimal range within each

record Within (ranges : List (ℕ × ℕ)) (range : ℕ × ℕ) : Type 0 where
  pub inner : ℕ × ℕ
  pub there : In (minimal ranges) inner
  pub above : range.0 ≤ inner.0

abbrev Proper : List (ℕ × ℕ) → Type 0
Proper ranges = (range : ℕ × ℕ) → In ranges range → range.0 ≤ range.1

this_one : (ranges : List (ℕ × ℕ)) (range : ℕ × ℕ) → In ranges range → list_any (is_within range) ranges ≡ false → Within ranges range
this_one ranges range h alone = record {
  inner = range;
  there = minimal_in ranges range h (λ s there w. let both : true ≡ false = sym (in_any (is_within range) ranges s there w) ∙ alone in cc);
  above = omega arith;
}

abbrev LiesWithin : ℕ × ℕ → ℕ × ℕ → Type 0
LiesWithin outer inner = (outer.0 ≤ inner.0) × (inner.1 ≤ outer.1) × (((inner.0 ≡ outer.0) × (inner.1 ≡ outer.1)) → ⊥)

narrower : (n : ℕ) (range other : ℕ × ℕ) → other.0 ≤ other.1 → range.1 ≤ range.0 + suc n → LiesWithin range other → other.1 ≤ other.0 + n
narrower n range other upright small w =
    let a = w.0 in
    let b = w.1 in
    elim (cases_Bool (other.0 == range.0)) [
      | inr behind ↦ omega (arith, a, b, small, eqb-false other.0 range.0 behind)
      | inl same ↦
          let start = eqb-true other.0 range.0 same in
          elim (cases_Bool (other.1 == range.1)) [
            | inl both ↦ absurd (w.2 (start, eqb-true other.1 range.1 both))
            | inr before ↦ omega (arith, a, b, small, start, eqb-false other.1 range.1 before)
          ]
    ]

within : (n : ℕ) (ranges : List (ℕ × ℕ)) (range : ℕ × ℕ) → Proper ranges → In ranges range → range.1 ≤ range.0 + n → Within ranges range
within zero ranges range proper h small = elim (cases_Bool (list_any (is_within range) ranges)) [
  | inr alone ↦ this_one ranges range h alone
  | inl some ↦
      let found = any_in (is_within range) ranges some in
      let w = is_within-true range found.0 found.2 in
      let a = w.0 in
      let b = w.1 in
      let upright = proper found.0 found.1 in
      absurd (w.2 (omega (arith, upright, a, b, small), omega (arith, upright, a, b, small)))
]
within (suc n) ranges range proper h small = elim (cases_Bool (list_any (is_within range) ranges)) [
  | inr alone ↦ this_one ranges range h alone
  | inl some ↦
      let found = any_in (is_within range) ranges some in
      let w = is_within-true range found.0 found.2 in
      let a = w.0 in
      let inner = within n ranges found.0 proper found.1 (narrower n range found.0 (proper found.0 found.1) small w) in
      let above = inner.above in
      record { inner = inner.inner; there = inner.there; above = omega (arith, above, a) }
]

-- ---- a text

module _ (bounded : BoundariesAreStarts) (part_keys : PartsHaveTheKeysOfClusters) (part_texts : PartsAreTexts)
    (table : TableMap) (law : KeyLaw table) (strength : Strength) (variable : Variable) (p text : List ℕ)
    (utf8_p : IsUtf8 p) (utf8_text : IsUtf8 text)
  where
    abbrev cs : List Cluster
    cs = clusters table strength variable text

    abbrev len : ℕ
    len = length text

    abbrev ks : List Key
    ks = text_keys table strength variable p

    abbrev bs : List ℕ
    bs = boundaries table text

    abbrev key : List ℕ → List ℕ
    key t = text_sort_key table strength variable t

    abbrev test : ℕ × ℕ → Bool
    test range = bytes_eq (key (part text range)) (key p)

    abbrev ranges : List (ℕ × ℕ)
    ranges = all_matches table strength variable p text

    abbrev at_end : ℕ × ℕ → Bool
    at_end range = range.1 == len

    up : Rising Below (starts cs ++ len ∷ [])
    up = subst (Rising Below) (bounded table strength variable text utf8_text) (rising_boundaries table text)

    rising : Rising Before ranges
    rising = rising_filter Before test (ranges_among bs) (rising_ranges bs (rising_boundaries table text))

    proper : Proper ranges
    proper range there = (in_ranges bs range (in_filter test (ranges_among bs) range there).0).2

    bound_among : (i : ℕ) → In bs (bound len cs i)
    bound_among i = subst (λ (xs : List ℕ). In xs (bound len cs i)) (sym (bounded table strength variable text utf8_text)) (bound_in len cs i)

    -- places in order are those of boundaries in order, and the other way round
    not_behind : (i j : ℕ) → i ≤ length cs → bound len cs i ≤ bound len cs j → i ≤ j
    not_behind i j last le = elim (cases_Bool (nat_lt j i)) [
      | inr above ↦ ltb-false j i above
      | inl below ↦ let rises = bound_rises len cs j i up (ltb-true j i below) last in absurd (omega (arith, rises, le))
    ]

    bound_below : (i j : ℕ) → i ≤ j → j ≤ length cs → bound len cs i ≤ bound len cs j
    bound_below i j le last = elim (cases_Bool (i == j)) [
      | inl same ↦ let equal = ap (bound len cs) (eqb-true i j same) in omega (arith, equal)
      | inr other ↦
          let less : i < j = omega (arith, le, eqb-false i j other) in
          let rises = bound_rises len cs i j up less last in omega (arith, rises)
    ]

    -- the part between two places has the keys of the clusters there
    record PartKeys (i j : ℕ) : Type 0 where
      pub inside : List Key
      pub keys : text_keys table strength variable (part text (bound len cs i, bound len cs j)) ≡ inside
      pub sum : prefix cs j ≡ prefix cs i ++ inside
      pub is_text : IsUtf8 (part text (bound len cs i, bound len cs j))

    keys_between : (i j : ℕ) → i ≤ j → PartKeys i j
    keys_between i j le =
        let s = split cs i j le in
        let from : start_or len (s.inside ++ drop j cs) ≡ bound len cs i = ap (start_or len) s.rest in
        record {
          inside = joined s.inside;
          keys = ap (λ (n : ℕ). text_keys table strength variable (part text (n, bound len cs j))) (sym from)
              ∙ part_keys table strength variable text (take i cs) s.inside (drop j cs) utf8_text s.whole;
          sum = s.keys;
          is_text = subst (λ (n : ℕ). IsUtf8 (part text (n, bound len cs j))) from (part_texts table strength variable text (take i cs) s.inside (drop j cs) utf8_text s.whole);
        }

    record Places (range : ℕ × ℕ) : Type 0 where
      pub start : ℕ
      pub end : ℕ
      pub upright : start ≤ end
      pub last : end ≤ length cs
      pub start_at : bound len cs start ≡ range.0
      pub end_at : bound len cs end ≡ range.1
      pub keys : prefix cs end ≡ prefix cs start ++ ks

    places : (range : ℕ × ℕ) → In ranges range → Places range
    places range there =
        let kept = in_filter test (ranges_among bs) range there in
        let ends = in_ranges bs range kept.0 in
        let here = bounded table strength variable text utf8_text in
        let s = in_bounds len cs range.0 (subst (λ (xs : List ℕ). In xs range.0) here ends.0) in
        let e = in_bounds len cs range.1 (subst (λ (xs : List ℕ). In xs range.1) here ends.1) in
        let i = s.0 in
        let j = e.0 in
        let upright : i ≤ j = not_behind i j s.1 (omega (arith, ends.2, s.2, e.2)) in
        let between = keys_between i j upright in
        let whole : part text range ≡ part text (bound len cs i, bound len cs j) =
        ap (λ (n : ℕ). part text (n, range.1)) (sym s.2) ∙ ap (λ (n : ℕ). part text (bound len cs i, n)) (sym e.2) in
        let same = (bytes_eq-Decides (key (part text range)) (key p)).0 kept.1 in
        let equal : between.inside ≡ ks =
        sym between.keys ∙ (law strength variable (part text (bound len cs i, bound len cs j)) p between.is_text utf8_p).0 (ap key (sym whole) ∙ same) in
        record {
          start = i;
          end = j;
          upright = upright;
          last = e.1;
          start_at = s.2;
          end_at = e.2;
          keys = between.sum ∙ ap (λ (xs : List Key). prefix cs i ++ xs) equal;
        }

    match_between : (i j : ℕ) → i ≤ j → j ≤ length cs → prefix cs j ≡ prefix cs i ++ ks → In ranges (bound len cs i, bound len cs j)
    match_between i j le last sum =
        let between = keys_between i j le in
        let range : ℕ × ℕ = (bound len cs i, bound len cs j) in
        let equal : between.inside ≡ ks = append_cancel_left (prefix cs i) between.inside ks (sym between.sum ∙ sum) in
        filter_in test (ranges_among bs) range (ranges_in bs (bound len cs i) (bound len cs j) (bound_among i) (bound_among j) (bound_below i j le last))
        ((bytes_eq-Decides (key (part text range)) (key p)).1 ((law strength variable (part text range) p between.is_text utf8_p).1 (between.keys ∙ equal)))

    -- a match within one that ends where the text ends goes on to there
    to_the_end : (outer inner : ℕ × ℕ) → In ranges outer → outer.1 ≡ len → In ranges inner → outer.0 ≤ inner.0 → In ranges (inner.0, len)
    to_the_end outer inner there at there_too above =
        let o = places outer there in
        let i = places inner there_too in
        let n = length cs in
        let at_n : bound len cs n ≡ len = bound_end len cs in
        let o_end = o.end_at in
        let whole : n ≤ o.end = not_behind n o.end (omega arith) (omega (arith, at_n, o_end, at)) in
        let o_last = o.last in
        let is_n : o.end ≡ n = omega (arith, whole, o_last) in
        let o_start = o.start_at in
        let i_start = i.start_at in
        let o_up = o.upright in
        let i_up = i.upright in
        let i_last = i.last in
        let order : o.start ≤ i.start = not_behind o.start i.start (omega (arith, o_up, o_last)) (omega (arith, o_start, i_start, above)) in
        let all : prefix cs n ≡ prefix cs o.start ++ ks = ap (prefix cs) (sym is_n) ∙ o.keys in
        let between = keys_between o.start i.start order in
        let count_all : length (prefix cs n) ≡ length (prefix cs o.start) + length ks = ap length all ∙ length-append (prefix cs o.start) ks in
        let count_inner : length (prefix cs i.end) ≡ length (prefix cs i.start) + length ks = ap length i.keys ∙ length-append (prefix cs i.start) ks in
        let count_between : length (prefix cs i.start) ≡ length (prefix cs o.start) + length between.inside = ap length between.sum ∙ length-append (prefix cs o.start) between.inside in
        let grows = prefix_grows cs i.end n i_last in
        let none : length between.inside ≤ 0 = omega (arith, grows, count_all, count_inner, count_between) in
        let same : prefix cs i.start ≡ prefix cs o.start = between.sum ∙ ap (λ (xs : List Key). prefix cs o.start ++ xs) (empty between.inside none) ∙ append-nil (prefix cs o.start) in
        let found = match_between i.start n (omega (arith, i_up, i_last)) (omega arith) (all ∙ ap (λ (xs : List Key). xs ++ ks) (sym same)) in
        subst (λ (r : ℕ × ℕ). In ranges r) (ap (λ (b : ℕ). (b, bound len cs n)) i_start ∙ ap (λ (b : ℕ). (inner.0, b)) at_n) found
      where
        empty : (xs : List Key) → length xs ≤ 0 → xs ≡ []
        empty [] h = refl
        empty (x ∷ xs) h = absurd (omega arith)

    -- the rest of the text, by itself
    rest_is_part : (start : ℕ) → part text (start, len) ≡ drop start text
    rest_is_part start = take_all (len - start) (drop start text) (omega (arith, length-drop start text))

    equal_rest : (start : ℕ) → In ranges (start, len) → is_equal table strength variable p (drop start text) ≡ true
    equal_rest start there =
        let same = (bytes_eq-Decides (key (part text (start, len))) (key p)).0 (in_filter test (ranges_among bs) (start, len) there).1 in
        equal_from table strength variable p (drop start text) (sym same ∙ ap key (rest_is_part start))

    rest_equal : (range : ℕ × ℕ) → In ranges range → is_equal table strength variable p (drop range.0 text) ≡ true → In ranges (range.0, len)
    rest_equal range there h =
        let ends = in_ranges bs range (in_filter test (ranges_among bs) range there).0 in
        let same = equal_is table strength variable p (drop range.0 text) h in
        let last = end_is_boundary table text in
        let o = places range there in
        let o_last = bound_below o.end (length cs) o.last (omega arith) in
        let at = bound_end len cs in
        let o_end = o.end_at in
        filter_in test (ranges_among bs) (range.0, len) (ranges_in bs range.0 len ends.0 last (omega (arith, ends.2, o_last, at, o_end)))
        ((bytes_eq-Decides (key (part text (range.0, len))) (key p)).1 (ap key (rest_is_part range.0) ∙ sym same))

    -- ---- the law

    abbrev at_the_end : List (ℕ × ℕ)
    at_the_end = filter at_end ranges

    abbrev told : Option (ℕ × ℕ) → Option ℕ
    told found = start_of_equal table strength variable p text found

    told_of : (range : ℕ × ℕ) → is_equal table strength variable p (drop range.0 text) ≡ true → told (Some range) ≡ Some range.0
    told_of range h = cond-true _ _ _ h

    not_told_of : (range : ℕ × ℕ) → is_equal table strength variable p (drop range.0 text) ≡ false → told (Some range) ≡ None
    not_told_of range h = cond-false _ _ _ h

    without : (found : Option (ℕ × ℕ)) → last_of at_the_end ≡ None → last_of (minimal ranges) ≡ found → None ≡ told found
    without None none is = refl
    without (Some range) none is =
        let there = (in_minimal ranges range (last_in (minimal ranges) range is)).0 in
        elim (cases_Bool (is_equal table strength variable p (drop range.0 text))) [
          | inr other ↦ sym (not_told_of range other)
          | inl equal ↦
              let one = filter_in at_end ranges (range.0, len) (rest_equal range there equal) (eq-eqb len len refl) in
              let found = last_among at_the_end (range.0, len) (rising_filter Before at_end ranges rising) one in
              let both : None ≡ Some found.last = sym none ∙ found.is in cc
        ]

    with_one : (range : ℕ × ℕ) → last_of at_the_end ≡ Some range → Some range.0 ≡ told (last_of (minimal ranges))
    with_one range is =
        let kept = in_filter at_end ranges range (last_in at_the_end range is) in
        let at = eqb-true range.1 len kept.1 in
        let inner = within range.1 ranges range proper kept.0 (omega arith) in
        let last = last_among (minimal ranges) inner.inner (rising_minimal ranges rising) inner.there in
        let there = (in_minimal ranges last.last last.there).0 in
        let low = inner.above in
        let high = last.after in
        let above : range.0 ≤ (last.last).0 = omega (arith, low, high) in
        let goes_on = to_the_end range last.last kept.0 at there above in
        let one = filter_in at_end ranges ((last.last).0, len) goes_on (eq-eqb len len refl) in
        let greatest = last_among at_the_end ((last.last).0, len) (rising_filter Before at_end ranges rising) one in
        let the_same : greatest.last ≡ range = some_same (sym greatest.is ∙ is) in
        let below = greatest.after in
        let start = ap (λ (q : ℕ × ℕ). q.0) the_same in
        let equal : range.0 ≡ (last.last).0 = omega (arith, above, below, start) in
        ap (λ (n : ℕ). Some n) equal ∙ sym (ap told last.is ∙ told_of last.last (equal_rest (last.last).0 goes_on))
      where
        some_same : {a b : ℕ × ℕ} → Some a ≡ Some b → a ≡ b
        some_same e = cc

    ends_told : (found : Option (ℕ × ℕ)) → last_of at_the_end ≡ found → option_map (λ (r : ℕ × ℕ). r.0) found ≡ told (last_of (minimal ranges))
    ends_told None is = without (last_of (minimal ranges)) is refl
    ends_told (Some range) is = with_one range is

    ends_found : ends table strength variable p text ≡ told (last_of (minimal ranges))
    ends_found = ends_told (last_of at_the_end) refl

pub ends_by_last : BoundariesAreStarts → PartsHaveTheKeysOfClusters → PartsAreTexts → (table : TableMap) → KeyLaw table → EndsByLastRange table
ends_by_last bounded part_keys part_texts table law strength variable p text utf8_p utf8_text = ends_found bounded part_keys part_texts table law strength variable p text utf8_p utf8_text
