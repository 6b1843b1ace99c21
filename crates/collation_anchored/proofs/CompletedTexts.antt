-- The matches that begin where a text begins, and where its keys were first a pattern's.
use Rattle.std.specs.Str.{chars, IsUtf8}
use Rattle.std.proofs.Common.{◌≡◌, ◌∙◌, ℕ, zero, suc, ◌<◌, ◌≤◌, ◌==◌, Bool, true, false, List, [], ◌∷◌, ◌++◌, length, take, drop, map, filter, bytes_eq, Option, Some, None, slice_get, refl, sym, ap, subst, arith, inl, inr, append_assoc}
use Rattle.std.proofs.lemmas.Bool.{cases_Bool, cond-true, cond-false, eqb-true, eqb-false}
use Rattle.std.proofs.lemmas.List.{append-nil, take-append-drop}
use Rattle.std.proofs.lemmas.Slice.Eq.{bytes_eq-Decides}
use Rattle.nfd_points.specs.Points.{points_from, ordered}
use Rattle.collation_table.specs.Table.{TableMap}
use Rattle.collation_elements.specs.declared.keys.Key.{Key}
use Rattle.collation_elements.specs.declared.keys.Item.{Item}
use Rattle.collation_elements.specs.declared.keys.Item.TheVariants.{ClusterStart, Element}
use Rattle.collation_elements.specs.declared.settings.Variable.{Variable}
use Rattle.collation_elements.specs.declared.settings.Strength.{Strength}
use Rattle.collation_elements.specs.Boundaries.{boundaries}
use Rattle.collation_elements.specs.Clusters.{Cluster, clusters, clusters_from, starts, start_or}
use Rattle.collation_elements.specs.Context.{BoundariesAreStarts, PartsHaveTheKeysOfClusters, PartsAreTexts}
use Rattle.collation_pattern.specs.Border.{same_keys}
use Rattle.collation_pattern.specs.KeyLaw.{KeyLaw}
use Rattle.collation_pattern.specs.Levels.{text_keys}
use Rattle.collation_pattern.specs.SortKey.{text_sort_key}
use Rattle.collation_pattern.proofs.KeyEquality.{same_keys-true, same_keys-same}
use Rattle.collation_matches.specs.ByClusters.{text_items, text_begin}
use Rattle.collation_matches.specs.Matches.{ranges_among, part}
use Rattle.collation_matches.proofs.BridgeLists.{In, Rising, in_filter, filter_in, rising_filter}
use Rattle.collation_matches.proofs.BridgeRanges.{Below, Before, in_ranges, ranges_in, rising_ranges}
use Rattle.collation_matches.proofs.BridgeClusters.{bound, prefix, in_bounds, bound_in, bound_rises}
use Rattle.collation_matches.proofs.BridgeMatches.{rising_boundaries}
use Rattle.collation_anchored.specs.Anchored.{all_matches, begins}
use Rattle.collation_anchored.specs.Compared.{completed_among}
use Rattle.collation_anchored.proofs.CompletedKeys.{at_start, at_end, at_other}
use Rattle.collation_anchored.proofs.EqualTexts.{start_is_boundary, part_whole}

-- ---- the least of some ranges

pub first_end : (ranges : List (ℕ × ℕ)) (range : ℕ × ℕ) → Rising Before ranges → In ranges range → ((other : ℕ × ℕ) → In ranges other → (other.0 ≡ range.0) × (range.1 ≤ other.1)) →
    slice_get (map (λ (r : ℕ × ℕ). r.1) ranges) 0 ≡ Some range.1
first_end [] range up there least = absurd there
first_end (r ∷ rs) range up (inl e) least = ap (λ (q : ℕ × ℕ). Some q.1) e
first_end (r ∷ rs) range up (inr later) least =
    let rises = up.0 range later in
    let first = least r (inl refl) in
    absurd (elim rises [ inl lower ↦ omega arith | inr same ↦ omega arith ])

pub no_end : (ranges : List (ℕ × ℕ)) → ((range : ℕ × ℕ) → In ranges range → ⊥) → slice_get (map (λ (r : ℕ × ℕ). r.1) ranges) 0 ≡ None
no_end [] none = refl
no_end (r ∷ rs) none = absurd (none r (inl refl))

-- ---- clusters of some items

first_start : (end : ℕ) (begun : Cluster) (its : List Item) → start_or end (clusters_from begun its) ≡ begun.start
first_start end begun [] = refl
first_start end begun (Element key ∷ rest) = first_start end (record { start = begun.start; keys = begun.keys ++ key ∷ [] }) rest
first_start end begun (ClusterStart start ∷ rest) = elim (cases_Bool (start == 0)) [
  | inl first ↦ ap (start_or end) (cond-true _ _ _ first) ∙ first_start end begun rest
  | inr later ↦ ap (start_or end) (cond-false _ _ _ later)
]

some_cluster : (begun : Cluster) (its : List Item) → 0 < length (clusters_from begun its)
some_cluster begun [] = omega arith
some_cluster begun (Element key ∷ rest) = some_cluster (record { start = begun.start; keys = begun.keys ++ key ∷ [] }) rest
some_cluster begun (ClusterStart start ∷ rest) = elim (cases_Bool (start == 0)) [
  | inl first ↦ subst (λ (cs : List Cluster). 0 < length cs) (sym (cond-true _ _ _ first)) (some_cluster begun rest)
  | inr later ↦ subst (λ (cs : List Cluster). 0 < length cs) (sym (cond-false _ _ _ later)) (omega arith)
]

-- `ks` are the keys before the items, `front` those before the cluster that has begun: the first cluster but that one before which the
-- keys are the pattern's begins at `end`
record Reached (pattern front : List Key) (cs : List Cluster) (len end : ℕ) : Type 0 where
  pub place : ℕ
  pub some : 0 < place
  pub before : place < length cs
  pub at : bound len cs place ≡ end
  pub keys : front ++ prefix cs place ≡ pattern
  pub first : (i : ℕ) → 0 < i → i < place → front ++ prefix cs i ≡ pattern → ⊥

abbrev NotReached : List Key → List Key → List Cluster → Type 0
NotReached pattern front cs = (i : ℕ) → 0 < i → i < length cs → front ++ prefix cs i ≡ pattern → ⊥

next_prefix : (front ks : List Key) (c : Cluster) (cs : List Cluster) (i : ℕ) → front ++ c.keys ≡ ks → front ++ prefix (c ∷ cs) (suc i) ≡ ks ++ prefix cs i
next_prefix front ks c cs i sum = sym (append_assoc front c.keys (prefix cs i)) ∙ ap (λ (ls : List Key). ls ++ prefix cs i) sum

other_keys : (pattern ks : List Key) → same_keys ks pattern ≡ false → ks ≡ pattern → ⊥
other_keys pattern ks other same = let both : true ≡ false = sym (ap (λ (ls : List Key). same_keys ls pattern) same ∙ same_keys-same pattern) ∙ other in cc

-- one cluster in front
not_reached_later : (pattern front ks : List Key) (c : Cluster) (cs : List Cluster) → front ++ c.keys ≡ ks → same_keys ks pattern ≡ false → (most : ℕ) →
    ((i : ℕ) → 0 < i → i < most → ks ++ prefix cs i ≡ pattern → ⊥) → (i : ℕ) → 0 < i → i < suc most → front ++ prefix (c ∷ cs) i ≡ pattern → ⊥
not_reached_later pattern front ks c cs sum other most none zero some before same = omega arith
not_reached_later pattern front ks c cs sum other most none (suc zero) some before same =
    other_keys pattern ks other (sym (next_prefix front ks c cs zero sum ∙ append-nil ks) ∙ same)
not_reached_later pattern front ks c cs sum other most none (suc (suc i)) some before same =
    none (suc i) (omega arith) (omega arith) (sym (next_prefix front ks c cs (suc i) sum) ∙ same)

reached_later : (pattern front ks : List Key) (c : Cluster) (cs : List Cluster) (len end : ℕ) → front ++ c.keys ≡ ks → same_keys ks pattern ≡ false → Reached pattern ks cs len end → Reached pattern front (c ∷ cs) len end
reached_later pattern front ks c cs len end sum other r = record {
  place = suc r.place;
  some = omega arith;
  before = let b = r.before in omega (arith, b);
  at = r.at;
  keys = next_prefix front ks c cs r.place sum ∙ r.keys;
  first = not_reached_later pattern front ks c cs sum other r.place r.first;
}

reached : (pattern front ks : List Key) (begun : Cluster) (its : List Item) (len end : ℕ) → front ++ begun.keys ≡ ks → completed_among pattern ks its ≡ Some end → Reached pattern front (clusters_from begun its) len end
reached pattern front ks begun [] len end sum h = cc
reached pattern front ks begun (Element key ∷ rest) len end sum h =
    let more : front ++ (begun.keys ++ key ∷ []) ≡ ks ++ key ∷ [] = sym (append_assoc front begun.keys (key ∷ [])) ∙ ap (λ (ls : List Key). ls ++ key ∷ []) sum in
    reached pattern front (ks ++ key ∷ []) (record { start = begun.start; keys = begun.keys ++ key ∷ [] }) rest len end more h
reached pattern front ks begun (ClusterStart start ∷ rest) len end sum h = elim (cases_Bool (start == 0)) [
  | inl first ↦
      subst (λ (cs : List Cluster). Reached pattern front cs len end) (sym (cond-true _ _ _ first))
      (reached pattern front ks begun rest len end sum (sym (at_start pattern ks start rest first) ∙ h))
  | inr later ↦
      let next : Cluster = record { start = start; keys = [] } in
      let following = clusters_from next rest in
      subst (λ (cs : List Cluster). Reached pattern front cs len end) (sym (cond-false _ _ _ later))
      (elim (cases_Bool (same_keys ks pattern)) [
        | inl same ↦
            let here : Some start ≡ Some end = sym (at_end pattern ks start rest later same) ∙ h in
            let there : start ≡ end = cc in
            let one = some_cluster next rest in record {
              place = 1;
              some = omega arith;
              before = omega (arith, one);
              at = first_start len next rest ∙ there;
              keys = next_prefix front ks begun following zero sum ∙ append-nil ks ∙ same_keys-true ks pattern same;
              first = λ i some before e. absurd (omega arith);
            }
        | inr other ↦
            reached_later pattern front ks begun following len end sum other
            (reached pattern ks ks next rest len end (append-nil ks) (sym (at_other pattern ks start rest other) ∙ h))
      ])
]

not_reached : (pattern front ks : List Key) (begun : Cluster) (its : List Item) → front ++ begun.keys ≡ ks → completed_among pattern ks its ≡ None → NotReached pattern front (clusters_from begun its)
not_reached pattern front ks begun [] sum h = λ i some before same. absurd (omega arith)
not_reached pattern front ks begun (Element key ∷ rest) sum h =
    let more : front ++ (begun.keys ++ key ∷ []) ≡ ks ++ key ∷ [] = sym (append_assoc front begun.keys (key ∷ [])) ∙ ap (λ (ls : List Key). ls ++ key ∷ []) sum in
    not_reached pattern front (ks ++ key ∷ []) (record { start = begun.start; keys = begun.keys ++ key ∷ [] }) rest more h
not_reached pattern front ks begun (ClusterStart start ∷ rest) sum h = elim (cases_Bool (start == 0)) [
  | inl first ↦
      subst (NotReached pattern front) (sym (cond-true _ _ _ first)) (not_reached pattern front ks begun rest sum (sym (at_start pattern ks start rest first) ∙ h))
  | inr later ↦
      let next : Cluster = record { start = start; keys = [] } in
      let following = clusters_from next rest in
      subst (NotReached pattern front) (sym (cond-false _ _ _ later))
      (elim (cases_Bool (same_keys ks pattern)) [
        | inl same ↦ let both : Some start ≡ None = sym (at_end pattern ks start rest later same) ∙ h in cc
        | inr other ↦
            not_reached_later pattern front ks begun following sum other (length following)
            (not_reached pattern ks ks next rest (append-nil ks) (sym (at_other pattern ks start rest other) ∙ h))
      ])
]

-- ---- a text

pub bound_end : (end : ℕ) (cs : List Cluster) → bound end cs (length cs) ≡ end
bound_end end [] = refl
bound_end end (c ∷ cs) = bound_end end cs

first_is_zero : (table : TableMap) (strength : Strength) (variable : Variable) (text : List ℕ) → start_or (length text) (clusters table strength variable text) ≡ 0
first_is_zero table strength variable [] = refl
first_is_zero table strength variable (b ∷ bs) = first_start (length (b ∷ bs)) text_begin (text_items table strength variable (b ∷ bs))

reached_text : (table : TableMap) (strength : Strength) (variable : Variable) (text : List ℕ) (ks : List Key) (end : ℕ) →
    completed_among ks [] (text_items table strength variable text) ≡ Some end → Reached ks [] (clusters table strength variable text) (length text) end
unfolding chars points_from ordered
reached_text table strength variable [] ks end h = cc
reached_text table strength variable (b ∷ bs) ks end h = reached ks [] [] text_begin (text_items table strength variable (b ∷ bs)) (length (b ∷ bs)) end refl h

not_reached_text : (table : TableMap) (strength : Strength) (variable : Variable) (text : List ℕ) (ks : List Key) →
    completed_among ks [] (text_items table strength variable text) ≡ None → NotReached ks [] (clusters table strength variable text)
not_reached_text table strength variable [] ks h = λ i some before same. absurd (omega arith)
not_reached_text table strength variable (b ∷ bs) ks h = not_reached ks [] [] text_begin (text_items table strength variable (b ∷ bs)) refl h

module _ (bounded : BoundariesAreStarts) (part_keys : PartsHaveTheKeysOfClusters) (part_texts : PartsAreTexts)
    (table : TableMap) (law : KeyLaw table) (strength : Strength) (variable : Variable) (p text : List ℕ) (ks : List Key)
    (utf8_p : IsUtf8 p) (utf8_text : IsUtf8 text) (compiled : ks ≡ text_keys table strength variable p) (some : 0 < length ks)
  where
    abbrev cs : List Cluster
    cs = clusters table strength variable text

    abbrev len : ℕ
    len = length text

    abbrev test : ℕ × ℕ → Bool
    test range = bytes_eq (text_sort_key table strength variable (part text range)) (text_sort_key table strength variable p)

    abbrev from_zero : ℕ × ℕ → Bool
    from_zero range = range.0 == 0

    abbrev ranges : List (ℕ × ℕ)
    ranges = all_matches table strength variable p text

    -- the text up to a boundary, by itself
    all_from : (i : ℕ) → start_or len (take i cs ++ drop i cs) ≡ 0
    all_from i = ap (start_or len) (take-append-drop i cs) ∙ first_is_zero table strength variable text

    keys_to : (i : ℕ) → text_keys table strength variable (part text (0, bound len cs i)) ≡ prefix cs i
    keys_to i =
        ap (λ (n : ℕ). text_keys table strength variable (part text (n, bound len cs i))) (sym (all_from i))
        ∙ part_keys table strength variable text [] (take i cs) (drop i cs) utf8_text (sym (take-append-drop i cs))

    text_to : (i : ℕ) → IsUtf8 (part text (0, bound len cs i))
    text_to i = subst (λ (n : ℕ). IsUtf8 (part text (n, bound len cs i))) (all_from i) (part_texts table strength variable text [] (take i cs) (drop i cs) utf8_text (sym (take-append-drop i cs)))

    -- a match that begins at 0 ends at a boundary before which the keys are the pattern's
    match_at : (i : ℕ) → prefix cs i ≡ ks → In ranges (0, bound len cs i)
    match_at i same =
        let end = bound len cs i in
        let there : In (boundaries table text) end = subst (λ (bs : List ℕ). In bs end) (sym (bounded table strength variable text utf8_text)) (bound_in len cs i) in
        let keys = (law strength variable (part text (0, end)) p (text_to i) utf8_p).1 (keys_to i ∙ same ∙ compiled) in
        filter_in test (ranges_among (boundaries table text)) (0, end) (ranges_in (boundaries table text) 0 end (start_is_boundary table text) there (omega arith))
        ((bytes_eq-Decides (text_sort_key table strength variable (part text (0, end))) (text_sort_key table strength variable p)).1 keys)

    record MatchAt (end : ℕ) : Type 0 where
      pub place : ℕ
      pub within : place ≤ length cs
      pub at : bound len cs place ≡ end
      pub keys : prefix cs place ≡ ks

    at_match : (range : ℕ × ℕ) → In ranges range → range.0 ≡ 0 → MatchAt range.1
    at_match range there from =
        let kept = in_filter test (ranges_among (boundaries table text)) range there in
        let ends = in_ranges (boundaries table text) range kept.0 in
        let found = in_bounds len cs range.1 (subst (λ (bs : List ℕ). In bs range.1) (bounded table strength variable text utf8_text) ends.1) in
        let i = found.0 in
        let whole : part text range ≡ part text (0, bound len cs i) = ap (λ (n : ℕ). part text (n, range.1)) from ∙ ap (λ (n : ℕ). part text (0, n)) (sym found.2) in
        let same = (bytes_eq-Decides (text_sort_key table strength variable (part text range)) (text_sort_key table strength variable p)).0 kept.1 in
        record {
          place = i;
          within = found.1;
          at = found.2;
          keys = sym (keys_to i) ∙ (law strength variable (part text (0, bound len cs i)) p (text_to i) utf8_p).0 (ap (text_sort_key table strength variable) (sym whole) ∙ same) ∙ sym compiled;
        }

    up : Rising Below (starts cs ++ len ∷ [])
    up = subst (Rising Below) (bounded table strength variable text utf8_text) (rising_boundaries table text)

    bound_below : (i j : ℕ) → i ≤ j → j ≤ length cs → bound len cs i ≤ bound len cs j
    bound_below i j le within = elim (cases_Bool (i == j)) [
      | inl same ↦ let equal = ap (bound len cs) (eqb-true i j same) in omega (arith, equal)
      | inr other ↦
          let less : i < j = omega (arith, le, eqb-false i j other) in
          let rises = bound_rises len cs i j up less within in omega (arith, rises)
    ]

    begins_at : (i : ℕ) → i ≤ length cs → prefix cs i ≡ ks → ((j : ℕ) → j < i → prefix cs j ≡ ks → ⊥) → begins table strength variable p text ≡ Some (bound len cs i)
    begins_at i within same first =
        first_end (filter from_zero ranges) (0, bound len cs i)
        (rising_filter Before from_zero ranges (rising_filter Before test (ranges_among (boundaries table text)) (rising_ranges (boundaries table text) (rising_boundaries table text))))
        (filter_in from_zero ranges (0, bound len cs i) (match_at i same) refl)
        (λ other there.
        let kept = in_filter from_zero ranges other there in
        let zero = eqb-true other.0 0 kept.1 in
        let found = at_match other kept.0 zero in
        let above : i ≤ found.place = not_less found.place i (λ less. first found.place less found.keys) in
        let below = bound_below i found.place above found.within in
        (zero, omega (arith, below, found.at)))
      where
        not_less : (j i : ℕ) → (j < i → ⊥) → i ≤ j
        not_less j i h = omega arith

    begins_nowhere : ((j : ℕ) → j ≤ length cs → prefix cs j ≡ ks → ⊥) → begins table strength variable p text ≡ None
    begins_nowhere none = no_end (filter from_zero ranges) (λ range there.
        let kept = in_filter from_zero ranges range there in
        let found = at_match range kept.0 (eqb-true range.0 0 kept.1) in
        none found.place found.within found.keys)

    keys_all : prefix cs (length cs) ≡ text_keys table strength variable text
    keys_all =
        sym (keys_to (length cs)) ∙ ap (λ (n : ℕ). text_keys table strength variable (part text (0, n))) (bound_end len cs)
        ∙ ap (text_keys table strength variable) (part_whole text (0, len) refl refl)

    never_empty : [] ≡ ks → ⊥
    never_empty e = let none = ap length e in omega (arith, none)

    -- no match begins at 0 and ends before the end of the text
    none_before : completed_among ks [] (text_items table strength variable text) ≡ None → (j : ℕ) → j < length cs → prefix cs j ≡ ks → ⊥
    none_before h zero before same = never_empty same
    none_before h (suc j) before same = not_reached_text table strength variable text ks h (suc j) (omega arith) before same

    completed_begins : (end : ℕ) → completed_among ks [] (text_items table strength variable text) ≡ Some end → (begins table strength variable p text ≡ Some end) × (end < len)
    completed_begins end h =
        let r = reached_text table strength variable text ks end h in
        let before = r.before in
        let rises = bound_rises len cs r.place (length cs) up before (omega arith) in (
          begins_at r.place (omega (arith, before)) r.keys (first r) ∙ ap (λ (n : ℕ). Some n) r.at,
          omega (arith, rises, r.at, bound_end len cs),
        )
      where
        first : (r : Reached ks [] cs len end) (j : ℕ) → j < r.place → prefix cs j ≡ ks → ⊥
        first r zero less same = never_empty same
        first r (suc j) less same = r.first (suc j) (omega arith) less same

    ended_begins : completed_among ks [] (text_items table strength variable text) ≡ None → text_keys table strength variable text ≡ ks → begins table strength variable p text ≡ Some len
    ended_begins h same = begins_at (length cs) (omega arith) (keys_all ∙ same) (none_before h) ∙ ap (λ (n : ℕ). Some n) (bound_end len cs)

    never_begins : completed_among ks [] (text_items table strength variable text) ≡ None → (text_keys table strength variable text ≡ ks → ⊥) → begins table strength variable p text ≡ None
    never_begins h other = begins_nowhere (λ j within same. elim (cases_Bool (j == length cs)) [
      | inl last ↦ other (sym keys_all ∙ ap (prefix cs) (sym (eqb-true j (length cs) last)) ∙ same)
      | inr before ↦ none_before h j (omega (arith, within, eqb-false j (length cs) before)) same
    ])

-- What begins is told by where the pattern's keys were completed and, where they were not, by all keys of the text.
pub record BeginsBy (end found : Option ℕ) (keys ks : List Key) (len : ℕ) : Type 0 where
  pub settled : (at : ℕ) → found ≡ Some at → (end ≡ Some at) × (at < len)
  pub whole : found ≡ None → keys ≡ ks → end ≡ Some len
  pub never : found ≡ None → (keys ≡ ks → ⊥) → end ≡ None

pub begins_by : BoundariesAreStarts → PartsHaveTheKeysOfClusters → PartsAreTexts → (table : TableMap) → KeyLaw table → (strength : Strength) (variable : Variable) (p text : List ℕ) (ks : List Key) →
    IsUtf8 p → IsUtf8 text → ks ≡ text_keys table strength variable p → 0 < length ks →
    BeginsBy (begins table strength variable p text) (completed_among ks [] (text_items table strength variable text)) (text_keys table strength variable text) ks (length text)
begins_by bounded part_keys part_texts table law strength variable p text ks utf8_p utf8_text compiled some = record {
  settled = completed_begins bounded part_keys part_texts table law strength variable p text ks utf8_p utf8_text compiled some;
  whole = ended_begins bounded part_keys part_texts table law strength variable p text ks utf8_p utf8_text compiled some;
  never = never_begins bounded part_keys part_texts table law strength variable p text ks utf8_p utf8_text compiled some;
}
