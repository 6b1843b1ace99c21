-- Where the rest of a text from a safe offset on has no range and more keys than the pattern, no match ends where the text ends.
use Rattle.std.proofs.Common.{◌≡◌, ◌∙◌, ◌⊎◌, ℕ, ◌+◌, ◌<◌, ◌≤◌, ◌-◌, nat_le, bytes_eq, ◌++◌, true, false, Contains, List, [], ◌∷◌, length, drop, filter, Option, Some, None, Result, Ok, Err, refl, sym, ap, subst, arith, inl, inr, length-append}
use Rattle.std.specs.Str.{IsUtf8, IsCharBoundary}
use Rattle.std.proofs.lemmas.Str.{IsUtf8-take, IsCharBoundary-start, IsCharBoundary-from_rest}
use Rattle.std.proofs.lemmas.Bool.{cases_Bool, cases_lt, cond-false, leb-false, le-leb, lt-ltb, ltb-true, false≢true}
use Rattle.std.proofs.lemmas.Slice.Eq.{bytes_eq-Decides}
use Rattle.std.proofs.lemmas.List.{take_all, drop-drop, length-drop, append-nil, nil_from_length}
use Rattle.std.proofs.lemmas.Option.{none-some}
use Rattle.collation_table.specs.Table.{TableMap}
use Rattle.collation_elements.specs.declared.keys.Key.{Key}
use Rattle.collation_elements.specs.declared.settings.Strength.{Strength}
use Rattle.collation_elements.specs.declared.settings.Variable.{Variable}
use Rattle.collation_elements.specs.Boundaries.{boundaries}
use Rattle.collation_elements.specs.Context.{KeysAreJoined}
use Rattle.collation_elements.specs.Parts.{part_between}
use Rattle.collation_pattern.specs.Compiled.{Compiled}
use Rattle.collation_pattern.specs.KeyLaw.{KeyLaw}
use Rattle.collation_pattern.specs.Levels.{text_keys}
use Rattle.collation_pattern.specs.SortKey.{text_sort_key}
use Rattle.collation_matches.specs.declared.faults.TextFault.{TextFault}
use Rattle.collation_matches.specs.declared.select.Select.TheVariants.{All}
use Rattle.collation_matches.specs.Answer.{Answer}
use Rattle.collation_matches.specs.GoodPrefix.{fault, prefix_at}
use Rattle.collation_matches.specs.Matches.{matches, part, ranges_among, ranges_with_sort_key}
use Rattle.collation_matches.specs.Offsets.{fault_moved, answer_from}
use Rattle.collation_matches.specs.OffsetLaws.{AnswersFromBoundaries, RangesMayBeGoneOnFrom, ranges_from}
use Rattle.collation_matches.specs.Sought.{Sought, IsCompiledFrom, answer_to}
use Rattle.collation_matches.proofs.BridgeLists.{In, filter_in, in_filter}
use Rattle.collation_matches.proofs.BridgeRanges.{in_minimal}
use Rattle.collation_matches.proofs.LagLaw.{in-contains}
use Rattle.collation_matches.proofs.LagTexts.{TextLaws, no_fault_text}
use Rattle.collation_matches.proofs.OffsetBounds.{matches-within}
use Rattle.collation_safe.specs.Laws.{AnswersFromSafeOffsets, SafeOffsetsAreBoundaries}
use Rattle.collation_safe.specs.Safe.{IsSafeOffset}
use Rattle.collation_anchored.specs.Anchored.{ends, is_equal, last_of}
use Rattle.collation_anchored.specs.Laws.{EndsByLastRange, start_of_equal}
use Rattle.collation_anchored.proofs.CountedTexts.{few-bytes}
use Rattle.collation_anchored.proofs.EqualAnswers.{keys_of_equal, equal_of_keys}
use Rattle.collation_anchored.proofs.EqualTexts.{start_is_boundary, end_is_boundary}
use Rattle.collation_backward.specs.Backward.{last_up_to, is_fault_before, said_up_to, start_told, HasMoreKeys, IsPlaceBefore, IsToldBefore, IsToldOfEnd}
use Rattle.collation_backward.proofs.Behind.{ok-none}
use Rattle.collation_backward.proofs.Ranges.{up_to, last-in, last-some}
use Rattle.collation_backward.proofs.StartTold.{ranges-are, start-good, unmoved}
use Rattle.collation_backward.proofs.Told.{answer_of, fault-is, no-fault-said, rest-answers, told-good}

-- ---- ranges that begin before a place

last-none : (rs : List (ℕ × ℕ)) (r : ℕ × ℕ) → last_of rs ≡ None → In rs r → ⊥
last-none [] r none h = h
last-none (x ∷ xs) r none h = let some = last-some x xs in none-some some.0 (sym none ∙ some.1)

-- where none begins at the place or behind it
begins-before : (at place : ℕ) (rs : List (ℕ × ℕ)) (r : ℕ × ℕ) → last_up_to at (ranges_from place rs) ≡ None → In rs r → r.1 ≤ at → r.0 < place
begins-before at place rs r none there le = elim (cases_Bool (nat_le place r.0)) [
  | inr before ↦ leb-false place r.0 before
  | inl behind ↦
      let later = filter_in (λ (range : ℕ × ℕ). nat_le place range.0) rs r there behind in
      absurd (last-none (filter (up_to at) (ranges_from place rs)) r none (filter_in (up_to at) (ranges_from place rs) r later (le-leb r.1 at le)))
]

-- ---- the keys of the rest of a text

part-to-end : (text : List ℕ) (from : ℕ) → part_between text from (length text) ≡ drop from text
part-to-end text from = take_all (length text - from) (drop from text) (omega (arith, length-drop from text))

-- the rest from a boundary on has no more keys than that from a boundary before it
pub fewer-keys : KeysAreJoined → (table : TableMap) (strength : Strength) (variable : Variable) (text : List ℕ) (from place : ℕ) → IsUtf8 text →
    Contains (boundaries table text) from → Contains (boundaries table text) place → from ≤ place → place ≤ length text →
    length (text_keys table strength variable (drop place text)) ≤ length (text_keys table strength variable (drop from text))
fewer-keys join table strength variable text from place utf8 starts stands le within =
    let keys : List ℕ → List Key = λ t. text_keys table strength variable t in
    let len = length text in
    let last = in-contains (boundaries table text) len (end_is_boundary table text) in
    let joined = ap length (join table strength variable text from place len utf8 starts stands last le within)
    ∙ length-append (keys (part_between text from place)) (keys (part_between text place len)) in
    let whole = ap (λ (t : List ℕ). length (keys t)) (part-to-end text from) in
    let rest = ap (λ (t : List ℕ). length (keys t)) (part-to-end text place) in
    omega (arith, joined, whole, rest)

-- where the rest from a boundary on has more keys than the pattern, so has the whole text
pub more-than-keys : KeysAreJoined → (s : Sought) (text : List ℕ) (place : ℕ) → IsUtf8 text → Contains (boundaries s.table text) place → place ≤ length text → HasMoreKeys s (drop place text) →
    HasMoreKeys s text
more-than-keys join s text place utf8 stands within more =
    let keys : List ℕ → List Key = λ t. text_keys s.table s.pattern.strength s.pattern.variable t in
    let starts = in-contains (boundaries s.table text) 0 (start_is_boundary s.table text) in
    let fewer = fewer-keys join s.table s.pattern.strength s.pattern.variable text 0 place utf8 starts stands (omega arith) within in
    let less = ltb-true (length s.pattern.keys) (length (keys (drop place text))) more in
    lt-ltb (length s.pattern.keys) (length (keys text)) (omega (arith, fewer, less))

-- ---- what is told of the end

-- there is none, by the keys of the rest from a safe offset on
pub record IsCounted (s : Sought) (p text : List ℕ) (said : Result (Option (ℕ × ℕ)) TextFault) : Type 0 where
  pub place : ℕ
  pub safe : IsSafeOffset s.table text place
  pub before : place < length text
  pub none : said ≡ Ok None
  pub says : said ≡ said_up_to (length text) (answer_from s p text place)
  pub more : HasMoreKeys s (drop place text)

placed : (s : Sought) (text : List ℕ) (place : ℕ) → (place ≡ 0) ⊎ (IsSafeOffset s.table text place × (place < length text)) → IsPlaceBefore s.table text (length text) place
placed s text place (inl zero) = inl zero
placed s text place (inr at) = inr (at.0, at.1)

of-end : (s : Sought) (p text : List ℕ) (said : Result (Option (ℕ × ℕ)) TextFault) → IsToldOfEnd s p text said → IsToldBefore s p text (length text) said ⊎ IsCounted s p text said
of-end s p text (Ok None) t =
    let whole : t.place ≡ 0 → IsToldBefore s p text (length text) (Ok None) = λ zero. record { place = t.place; begins = placed s text t.place t.begins; says = t.says; none = λ e. zero } in
    elim (t.none refl) [
      | inl zero ↦ inl (whole zero)
      | inr more ↦ elim t.begins [
        | inl zero ↦ inl (whole zero)
        | inr at ↦ inr (record { place = t.place; safe = at.0; before = at.1; none = refl; says = t.says; more = more })
      ]
    ]
of-end s p text (Ok (Some range)) t = inl (record { place = t.place; begins = placed s text t.place t.begins; says = t.says; none = λ e. absurd cc })
of-end s p text (Err f) t = inl (record { place = t.place; begins = placed s text t.place t.begins; says = t.says; none = λ e. absurd cc })

module _ (laws : TextLaws) (rests : AnswersFromBoundaries) (ends_of_ranges : RangesMayBeGoneOnFrom) (answers : AnswersFromSafeOffsets) (safe : SafeOffsetsAreBoundaries)
    (join : KeysAreJoined) (s : Sought) (law : KeyLaw s.table) (last_law : EndsByLastRange s.table) (all : s.select ≡ All)
    (p text : List ℕ) (compiled : IsCompiledFrom s p) (good : fault text ≡ None) (said : Result (Option (ℕ × ℕ)) TextFault)
  where
    abbrev whole : Answer
    whole = answer_to s p text

    abbrev Equal : List ℕ → Type 0
    Equal t = is_equal s.table s.pattern.strength s.pattern.variable p t ≡ true

    utf8 : IsUtf8 text
    utf8 = no_fault_text laws text good

    -- a range begins at a boundary, and the rest from there on is a text
    record Begins (r : ℕ × ℕ) : Type 0 where
      boundary : Contains (boundaries s.table text) r.0
      is_text : IsUtf8 (drop r.0 text)

    begins-there : (r : ℕ × ℕ) → In whole.ranges r → Begins r
    begins-there r there =
        let rest = drop r.0 text in
        let may = (ends_of_ranges s p text r (few-bytes text good) (in-contains whole.ranges r there)).0 in
        let same = ap (λ (a : Answer). a.fault) (rests s p text r.0 all may) in
        let moved : fault_moved r.0 (fault rest) ≡ None = ap (fault_moved r.0) (sym (fault-is s p rest)) ∙ same ∙ fault-is s p text ∙ good in
        record {
          boundary = subst (λ (t : List ℕ). Contains (boundaries s.table t) r.0) (ap (prefix_at text) good) may.boundary;
          is_text = no_fault_text laws rest (unmoved r.0 (fault rest) moved);
        }

    -- and ends at one
    ends-there : (r : ℕ × ℕ) → In whole.ranges r → Contains (boundaries s.table text) r.1 × IsUtf8 (drop r.1 text)
    ends-there r there =
        let rest = drop r.1 text in
        let may = (ends_of_ranges s p text r (few-bytes text good) (in-contains whole.ranges r there)).1 in
        let same = ap (λ (a : Answer). a.fault) (rests s p text r.1 all may) in
        let moved : fault_moved r.1 (fault rest) ≡ None = ap (fault_moved r.1) (sym (fault-is s p rest)) ∙ same ∙ fault-is s p text ∙ good in (
          subst (λ (t : List ℕ). Contains (boundaries s.table t) r.1) (ap (prefix_at text) good) may.boundary,
          no_fault_text laws rest (unmoved r.1 (fault rest) moved),
        )

    -- a range from which on the text is not equal stands in a text of more keys
    pub range-more : (r : ℕ × ℕ) → In whole.ranges r → is_equal s.table s.pattern.strength s.pattern.variable p (drop r.0 text) ≡ false → HasMoreKeys s text
    range-more r there other =
        let keys : List ℕ → List Key = λ t. text_keys s.table s.pattern.strength s.pattern.variable t in
        let key : List ℕ → List ℕ = λ t. text_sort_key s.table s.pattern.strength s.pattern.variable t in
        let bs = boundaries s.table text in
        let len = length text in
        let among = subst (λ (rs : List (ℕ × ℕ)). In rs r) (ranges-are s p text all good) there in
        let within = matches-within s.table s.pattern.strength s.pattern.variable p text r among in
        let order = within.0 in
        let upto = within.1 in
        let kept = in_filter (λ (range : ℕ × ℕ). bytes_eq (key (part text range)) (key p)) (ranges_among bs) r
        (in_minimal (ranges_with_sort_key s.table s.pattern.strength s.pattern.variable (key p) text) r among).0 in
        let b = begins-there r there in
        let e = ends-there r there in
        let rest = drop r.0 text in
        let by = r.1 - r.0 in
        let inner = part text r in
        let sum : r.0 + by ≡ r.1 = omega (arith, order) in
        let later : drop by rest ≡ drop r.1 text = drop-drop by r.0 text ∙ ap (λ n. drop n text) sum in
        let inside = length-drop r.0 text in
        let zero : by + 0 ≡ by = omega arith in
        let cut = subst (IsCharBoundary rest) zero (IsCharBoundary-from_rest rest by 0 (omega (arith, order, upto, inside)) (IsCharBoundary-start (drop by rest) (subst IsUtf8 (sym later) e.1))) in
        let utf8_inner : IsUtf8 inner = IsUtf8-take rest by b.is_text cut in
        let same = (bytes_eq-Decides (key inner) (key p)).0 kept.1 in
        let equal : keys inner ≡ keys p = (law s.pattern.strength s.pattern.variable inner p utf8_inner compiled.text).0 same in
        let last = in-contains bs len (end_is_boundary s.table text) in
        let parts : keys rest ≡ keys p ++ keys (drop r.1 text) =
        ap keys (sym (part-to-end text r.0))
        ∙ join s.table s.pattern.strength s.pattern.variable text r.0 r.1 len utf8 b.boundary e.0 last order upto
        ∙ ap (λ (ks : List Key). ks ++ keys (part_between text r.1 len)) equal
        ∙ ap (λ (t : List ℕ). keys p ++ keys t) (part-to-end text r.1) in
        let starts = in-contains bs 0 (start_is_boundary s.table text) in
        let fewer = fewer-keys join s.table s.pattern.strength s.pattern.variable text 0 r.0 utf8 starts b.boundary (omega arith) (omega (arith, order, upto)) in
        let count = ap (λ (ks : List Key). length ks) parts ∙ length-append (keys p) (keys (drop r.1 text)) in
        let known = ap (λ (ks : List Key). length ks) compiled.keys in
        elim (cases_lt 0 (length (keys (drop r.1 text)))) [
          | inl some ↦ lt-ltb (length s.pattern.keys) (length (keys text)) (omega (arith, some, count, known, fewer))
          | inr none ↦
              let nil : keys (drop r.1 text) ≡ [] = nil_from_length (keys (drop r.1 text)) (omega (arith, none)) in
              let whole_keys : keys p ≡ keys rest = sym (parts ∙ ap (λ (ks : List Key). keys p ++ ks) nil ∙ append-nil (keys p)) in
              absurd (false≢true (sym other ∙ equal_of_keys s.table law s.pattern.strength s.pattern.variable p rest compiled.text b.is_text whole_keys))
        ]

    module _ (t : IsCounted s p text said) where
      nothing : last_up_to (length text) (ranges_from t.place whole.ranges) ≡ None
      nothing =
          let rest = rest-answers answers s p text t.place all (few-bytes text good) t.safe (inl good) in
          let clean : is_fault_before (length text) whole.fault ≡ false = ap (is_fault_before (length text)) (fault-is s p text ∙ good) in
          ok-none (last_up_to (length text) (ranges_from t.place whole.ranges))
          (sym (ap (said_up_to (length text)) rest ∙ no-fault-said (length text) (answer_of (ranges_from t.place whole.ranges) whole.fault) clean) ∙ sym t.says ∙ t.none)

      not-equal : (r : ℕ × ℕ) → In whole.ranges r → r.1 ≤ length text → Equal (drop r.0 text) → ⊥
      not-equal r there le equal =
          let b = begins-there r there in
          let less = begins-before (length text) t.place whole.ranges r nothing there le in
          let before = t.before in
          let more = ltb-true (length s.pattern.keys) (length (text_keys s.table s.pattern.strength s.pattern.variable (drop t.place text))) t.more in
          let stands = safe s.table text t.place utf8 t.safe in
          let fewer = fewer-keys join s.table s.pattern.strength s.pattern.variable text r.0 t.place utf8 b.boundary stands (omega (arith, less)) (omega (arith, before)) in
          let same = ap (λ (ks : List Key). length ks)
          (compiled.keys ∙ keys_of_equal s.table law s.pattern.strength s.pattern.variable p (drop r.0 text) compiled.text b.is_text equal) in
          omega (arith, more, fewer, same)

      no-start : (found : Option (ℕ × ℕ)) → last_of (matches s.table s.pattern.strength s.pattern.variable p text) ≡ found →
          start_of_equal s.table s.pattern.strength s.pattern.variable p text found ≡ None
      no-start None is = refl
      no-start (Some r) is =
          let there = last-in (matches s.table s.pattern.strength s.pattern.variable p text) r is in
          let among = subst (λ (rs : List (ℕ × ℕ)). In rs r) (sym (ranges-are s p text all good)) there in
          let within = (matches-within s.table s.pattern.strength s.pattern.variable p text r there).1 in
          elim (cases_Bool (is_equal s.table s.pattern.strength s.pattern.variable p (drop r.0 text))) [
            | inl equal ↦ absurd (not-equal r among within equal)
            | inr other ↦ cond-false _ _ _ other
          ]

      none-ends : ends s.table s.pattern.strength s.pattern.variable p text ≡ None
      none-ends =
          last_law s.pattern.strength s.pattern.variable p text compiled.text utf8
          ∙ no-start (last_of (matches s.table s.pattern.strength s.pattern.variable p text)) refl

    abbrev ok_of : Option ℕ → Result (Option ℕ) TextFault
    ok_of found = Ok found

    -- so of a text without a fault the match that ends at its end is told
    pub end-good : (told : Result (Option ℕ) TextFault) → IsToldOfEnd s p text said → told ≡ start_told s p text said →
        told ≡ Ok (ends s.table s.pattern.strength s.pattern.variable p text)
    end-good told t is = elim (of-end s p text said t) [
      | inl before ↦
          start-good laws s last_law p text compiled.text all good said told
          (λ few clean. told-good answers laws.text laws.within s p text (length text) said all few clean before) is
      | inr counted ↦ is ∙ ap (start_told s p text) counted.none ∙ sym (ap ok_of (none-ends counted))
    ]
