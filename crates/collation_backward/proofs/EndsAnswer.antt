-- What is told of the match that ends where a text ends, by what the rest of the text from some offset on says.
use Rattle.std.proofs.Common.{◌≡◌, ◌⊎◌, ◌∙◌, ℕ, ◌+◌, ◌-◌, ◌<◌, ◌≤◌, ◌&&◌, Bool, true, false, not, nat_lt, Contains, List, [], ◌∷◌, ◌++◌, length, drop, Option, Some, None, is_none, Result, Ok, Err, refl, sym, ap, subst, arith, inl, inr, length-append}
use Rattle.std.specs.Option.{option_map}
use Rattle.std.specs.Prelude.{IfErr}
use Rattle.std.proofs.lemmas.Bool.{cases_Bool, cases_lt, and_parts, and_from, cond-true, cond-false, lt-ltb, ltb-true, false≢true}
use Rattle.std.proofs.lemmas.List.{drop-drop, length-drop}
use Rattle.std.proofs.lemmas.Option.{none-some}
use Rattle.collation_elements.specs.Context.{KeysAreJoined}
use Rattle.collation_pattern.specs.KeyLaw.{KeyLaw}
use Rattle.collation_table.specs.Table.{TableMap}
use Rattle.collation_matches.specs.declared.faults.TextFault.{TextFault}
use Rattle.collation_matches.specs.declared.select.Select.TheVariants.{All}
use Rattle.collation_matches.specs.Answer.{Answer}
use Rattle.collation_matches.specs.GoodPrefix.{most_bytes, fault}
use Rattle.collation_matches.specs.Offsets.{range_moved, text_fault_moved, fault_moved, answer_from}
use Rattle.collation_matches.specs.OffsetLaws.{AnswersFromBoundaries, RangesMayBeGoneOnFrom}
use Rattle.collation_matches.specs.Sought.{Sought, IsCompiledFrom, answer_to}
use Rattle.collation_matches.proofs.BridgeLists.{In}
use Rattle.collation_matches.proofs.LagTexts.{no_fault_text}
use Rattle.collation_matches.proofs.SearchLemmas.{offset_of}
use Rattle.collation_safe.specs.Laws.{AnswersFromSafeOffsets, SafeOffsetsAreBoundaries}
use Rattle.collation_safe.specs.Safe.{IsSafeOffset}
use Rattle.collation_safe.proofs.Standing.{stands-from, stands-within}
use Rattle.collation_anchored.specs.Anchored.{ends, is_equal}
use Rattle.collation_anchored.specs.Answers.{has_more_keys, unless_fault}
use Rattle.collation_anchored.specs.Laws.{EndsByLastRange, start_of_equal}
use Rattle.collation_search.specs.Indexing.{first_moved}
use Rattle.collation_backward.specs.Backward.{is_fault_before, last_up_to, said_up_to, start_told, HasMoreKeys, IsFaultFrom, IsToldOfEnd}
use Rattle.collation_backward.specs.Ending.{starts_safely, last_fault, next_read, rest_ends_answer, ends_answer}
use Rattle.collation_backward.proofs.Behind.{moved-nothing}
use Rattle.collation_backward.proofs.FaultsFrom.{IsBehind, Read, alone-within, good-later, later-alone, last-is, no-fault-or-behind}
use Rattle.collation_backward.proofs.Below.{first-is, first-none}
use Rattle.collation_backward.proofs.LastFaults.{StarterLaws, alone-begins, begins-alone}
use Rattle.collation_backward.proofs.MoreKeys.{end-good, more-than-keys, range-more}
use Rattle.collation_backward.proofs.Ranges.{up-to-in}
use Rattle.collation_backward.proofs.SaidInPieces.{said-from}
use Rattle.collation_backward.proofs.StartTold.{rest-said, said-found}
use Rattle.collation_backward.proofs.Told.{fault-is}

abbrev Said : Type 0
Said = Result (Option (ℕ × ℕ)) TextFault

abbrev ok_range : ℕ × ℕ → Said
ok_range range = Ok (Some range)

abbrev ok_start : Option ℕ → Result (Option ℕ) TextFault
ok_start start = Ok start

-- a range that is said counted from elsewhere
record IsMoved (by : ℕ) (said : Said) (range : ℕ × ℕ) : Type 0 where
  inner : ℕ × ℕ
  is : said ≡ Ok (Some inner)
  start : by + inner.0 ≡ range.0

moved-range : (by : ℕ) (said : Said) (range : ℕ × ℕ) → first_moved by said ≡ Ok (Some range) → IsMoved by said range
moved-range by (Ok None) range h = cc
moved-range by (Ok (Some inner)) range h =
    let same : Some (range_moved by inner) ≡ Some range = cc in
    let one : range_moved by inner ≡ range = cc in
    record { inner = inner; is = refl; start = ap (λ (r : ℕ × ℕ). r.0) one }
moved-range by (Err f) range h = cc

-- the laws that this rests on
pub record EndLaws (s : Sought) : Type 0 where
  pub starters : StarterLaws
  pub rests : AnswersFromBoundaries
  pub ranges : RangesMayBeGoneOnFrom
  pub answers : AnswersFromSafeOffsets
  pub safe : SafeOffsetsAreBoundaries
  pub join : KeysAreJoined
  pub law : KeyLaw s.table
  pub last_law : EndsByLastRange s.table
  pub all : s.select ≡ All

module _ (s : Sought) (laws : EndLaws s) (p text : List ℕ) (few : length text ≤ most_bytes) (compiled : IsCompiledFrom s p) where
  abbrev Alone : ℕ → Type 0
  Alone at = IsSafeOffset s.table text at

  abbrev ends_of : List ℕ → Option ℕ
  ends_of t = ends s.table s.pattern.strength s.pattern.variable p t

  abbrev told : Result (Option ℕ) TextFault
  told = ends_answer s.table s.pattern p text

  none-told : last_fault s.table text ≡ None → told ≡ Ok (ends_of text)
  none-told none = ap (λ (o : Option TextFault). elim o [
    | None ↦ ok_start (ends_of text)
    | Some at ↦ elim (next_read s.table text at) [ None ↦ Err at | Some from ↦ rest_ends_answer s.table s.pattern p text at from ]
  ]) none

  fault-told : (at : TextFault) (next : Option ℕ) → last_fault s.table text ≡ Some at → next_read s.table text at ≡ next →
      told ≡ elim next [ None ↦ Err at | Some from ↦ rest_ends_answer s.table s.pattern p text at from ]
  fault-told at next last is = ap (λ (o : Option TextFault). elim o [
    | None ↦ ok_start (ends_of text)
    | Some f ↦ elim (next_read s.table text f) [ None ↦ Err f | Some from ↦ rest_ends_answer s.table s.pattern p text f from ]
  ]) last ∙ ap (λ (o : Option ℕ). elim o [ None ↦ Err at | Some from ↦ rest_ends_answer s.table s.pattern p text at from ]) is

  found-there : (at : TextFault) (from : ℕ) (start : ℕ) → ends_of (drop from text) ≡ Some start → rest_ends_answer s.table s.pattern p text at from ≡ Ok (Some (from + start))
  found-there at from start is =
      ap (λ (o : Option ℕ). unless_fault (is_none o && not (has_more_keys s.table s.pattern (drop from text))) (Some at) (option_map (λ n. from + n) o)) is

  none-there : (at : TextFault) (from : ℕ) → ends_of (drop from text) ≡ None →
      rest_ends_answer s.table s.pattern p text at from ≡ unless_fault (not (has_more_keys s.table s.pattern (drop from text))) (Some at) None
  none-there at from is =
      ap (λ (o : Option ℕ). unless_fault (is_none o && not (has_more_keys s.table s.pattern (drop from text))) (Some at) (option_map (λ n. from + n) o)) is

  -- ---- from where on the text says it, at the latest

  record IsSaidFrom (place : ℕ) : Type 0 where
    from : ℕ
    before : from ≤ place
    good : fault (drop from text) ≡ None
    found : (start : ℕ) → ends_of (drop from text) ≡ Some start → told ≡ Ok (Some (from + start))
    none : ends_of (drop from text) ≡ None → (place ≡ 0) ⊎ (has_more_keys s.table s.pattern (drop from text) ≡ true) → told ≡ Ok None

  said-by : (place : ℕ) → Read laws.answers laws.starters s laws.all p text few place → fault (drop place text) ≡ None → IsSaidFrom place
  said-by place read none = elim (no-fault-or-behind laws.answers laws.starters s laws.all p text few place read none) [
    | inl good ↦ record {
      from = 0;
      before = omega arith;
      good = good.1;
      found = λ start is. none-told good.0 ∙ ap ok_start (is ∙ (let same : start ≡ 0 + start = omega arith in ap (λ n. Some n) same));
      none = λ is more. none-told good.0 ∙ ap ok_start is;
    }
    | inr behind ↦
        let at = behind.at in
        let next = behind.next in
        let whole = fault-told at (Some next) behind.last behind.is in
        let before = behind.before in
        let later = behind.later in
        record {
          from = next;
          before = before;
          good = behind.good;
          found = λ start is. whole ∙ found-there at next start is;
          none = λ is more. whole ∙ none-there at next is ∙ elim more [
            | inl zero ↦ absurd (omega (arith, zero, before, later))
            | inr many ↦ ap (λ b. unless_fault (not b) (Some at) None) many
          ];
        }
  ]

  module _ (place : ℕ) (read : Read laws.answers laws.starters s laws.all p text few place) (within : place ≤ length text) (clean : fault (drop place text) ≡ None) where
    abbrev rest : List ℕ
    rest = drop place text

    -- what the rest says, counted from its beginning
    abbrev inner : Said
    inner = said_up_to (length text - place) (answer_to s p rest)

    said-here : first_moved place inner ≡ said_up_to (length text) (answer_from s p text place)
    said-here = said-from s p text place (length text) within

    module _ (by : IsSaidFrom place) where
      abbrev back : List ℕ
      back = drop by.from text

      abbrev at : ℕ
      at = place - by.from

      sum : by.from + at ≡ place
      sum = let before = by.before in omega (arith, before)

      same-rest : drop at back ≡ rest
      same-rest = drop-drop at by.from text ∙ ap (λ n. drop n text) sum

      len : length back ≡ length text - by.from
      len = length-drop by.from text

      said-there : said_up_to (length back) (answer_from s p back at) ≡ first_moved at inner
      said-there =
          let before = by.before in
          let le : at ≤ length back = omega (arith, len, within, before) in
          let left : length back - at ≡ length text - place = omega (arith, len, within, before) in
          sym (said-from s p back at (length back) le)
          ∙ ap (λ n. first_moved at (said_up_to n (answer_to s p (drop at back)))) left
          ∙ ap (λ (t : List ℕ). first_moved at (said_up_to (length text - place) (answer_to s p t))) same-rest

      begins-there : (at ≡ 0) ⊎ (IsSafeOffset s.table back at × (at < length back))
      begins-there = elim read [
        | inl zero ↦ inl (omega (arith, zero))
        | inr alone ↦ elim (cases_lt 0 at) [
          | inr zero ↦ inl (omega (arith, zero))
          | inl some ↦
              let inside = alone-within laws.answers laws.starters s laws.all p text few place alone in
              inr (later-alone s.table text by.from at (subst Alone (sym sum) alone), omega (arith, some, inside, len, sum))
        ]
      ]

      -- the rest has no more keys than what stands before it too
      more-back : has_more_keys s.table s.pattern rest ≡ true → has_more_keys s.table s.pattern back ≡ true
      more-back more = elim begins-there [
        | inl zero ↦
            let same : back ≡ rest = ap (λ n. drop n text) (let e = sum in omega (arith, zero, e)) in
            ap (has_more_keys s.table s.pattern) same ∙ more
        | inr safe ↦
            let utf8 = no_fault_text laws.starters.texts back by.good in
            let inside = safe.1 in
            more-than-keys laws.join s back at utf8 (laws.safe s.table back at utf8 safe.0) (omega (arith, inside)) (ap (has_more_keys s.table s.pattern) same-rest ∙ more)
      ]

      said-end : (said : Said) → said ≡ first_moved at inner → (said ≡ Ok None → (at ≡ 0) ⊎ HasMoreKeys s (drop at back)) → IsToldOfEnd s p back said
      said-end said is none = record { place = at; begins = begins-there; says = is ∙ sym said-there; none = none }

      ends-there : (said : Said) → said ≡ first_moved at inner → (said ≡ Ok None → (at ≡ 0) ⊎ HasMoreKeys s (drop at back)) → start_told s p back said ≡ Ok (ends_of back)
      ends-there said is none =
          end-good laws.starters.texts laws.rests laws.ranges laws.answers laws.safe laws.join s laws.law laws.last_law laws.all p back compiled by.good said
          (start_told s p back said) (said-end said is none) refl

      -- a range is said: where it begins, if the text from there on is equal
      range-told : (range : ℕ × ℕ) → inner ≡ Ok (Some range) → In (answer_to s p rest).ranges range → start_told s p text (ok_range (place + range.0, place + range.1)) ≡ told
      range-told range is there =
          let moved : ℕ × ℕ = (at + range.0, at + range.1) in
          let back_start = at + range.0 in
          let text_start = place + range.0 in
          let offset : by.from + back_start ≡ text_start = let e = sum in omega (arith, e) in
          let same : drop back_start back ≡ drop text_start text = drop-drop back_start by.from text ∙ ap (λ n. drop n text) (let e : by.from + back_start ≡ text_start = offset in e) in
          let inner_same : drop range.0 rest ≡ drop text_start text = drop-drop range.0 place text in
          let equal : List ℕ → Bool = λ t. is_equal s.table s.pattern.strength s.pattern.variable p t in
          let ended : start_told s p back (ok_range moved) ≡ Ok (ends_of back) = ends-there (ok_range moved) (sym (ap (first_moved at) is)) (λ none. cc) in
          elim (cases_Bool (equal (drop text_start text))) [
            | inl passed ↦
                let found : ends_of back ≡ Some back_start = same-start (ends_of back) (Some back_start)
                (sym ended ∙ ap ok_start (cond-true (equal (drop back_start back)) (Some back_start) None (ap equal same ∙ passed))) in
                ap ok_start (cond-true (equal (drop text_start text)) (Some text_start) None passed)
                ∙ sym (by.found back_start found ∙ ap (λ n. ok_start (Some n)) offset)
            | inr failed ↦
                let nothing : ends_of back ≡ None = same-start (ends_of back) None (sym ended ∙ ap ok_start (cond-false (equal (drop back_start back)) (Some back_start) None (ap equal same ∙ failed))) in
                let many = range-more laws.starters.texts laws.rests laws.ranges laws.answers laws.safe laws.join s laws.law laws.last_law laws.all p rest compiled clean (ok_range range) range there
                (ap equal inner_same ∙ failed) in
                ap ok_start (cond-false (equal (drop text_start text)) (Some text_start) None failed)
                ∙ sym (by.none nothing (inr (more-back many)))
          ]
        where
          same-start : (a b : Option ℕ) → ok_start a ≡ ok_start b → a ≡ b
          same-start a b e = cc

      -- nothing is said: so it is of the whole text, or where the rest has more keys than the pattern
      none-ends : inner ≡ Ok None → (at ≡ 0) ⊎ (has_more_keys s.table s.pattern rest ≡ true) → ends_of back ≡ None
      none-ends is more =
          let why : (at ≡ 0) ⊎ HasMoreKeys s (drop at back) = elim more [
            | inl zero ↦ inl zero
            | inr many ↦ inr (ap (has_more_keys s.table s.pattern) same-rest ∙ many)
          ] in
          same-none (ends_of back) (sym (ends-there (Ok None) (sym (ap (first_moved at) is)) (λ e. why)))
        where
          same-none : (a : Option ℕ) → ok_start a ≡ ok_start None → a ≡ None
          same-none a e = cc

      none-told-there : inner ≡ Ok None → (place ≡ 0) ⊎ (has_more_keys s.table s.pattern rest ≡ true) → ok_start None ≡ told
      none-told-there is more = elim more [
        | inl zero ↦ sym (by.none (none-ends is (inl (omega (arith, zero)))) (inl zero))
        | inr many ↦ sym (by.none (none-ends is (inr many)) (inr (more-back many)))
      ]

    -- ---- what is said from a place on

    pub range-answers : (range : ℕ × ℕ) → Ok (Some range) ≡ said_up_to (length text) (answer_from s p text place) → start_told s p text (Ok (Some range)) ≡ told
    range-answers range says =
        let moved = moved-range place inner range (said-here ∙ sym says) in
        let there = among (length text - place) (answer_to s p rest) moved.inner (sym moved.is) in
        start-only range (place + (moved.inner).0, place + (moved.inner).1) (sym moved.start) ∙ range-told (said-by place read clean) moved.inner moved.is there
      where
        among : (to : ℕ) (a : Answer) (range : ℕ × ℕ) → Ok (Some range) ≡ said_up_to to a → In a.ranges range
        among to a range is = (up-to-in to a.ranges range (said-found to a.fault (last_up_to to a.ranges) (Some range) (is_fault_before to a.fault) refl is).1).0

        start-only : (one other : ℕ × ℕ) → one.0 ≡ other.0 → start_told s p text (ok_range one) ≡ start_told s p text (ok_range other)
        start-only one other same = ap (λ n. start_told s p text (ok_range (n, 0))) same

    pub none-answers : Ok None ≡ said_up_to (length text) (answer_from s p text place) → (place ≡ 0) ⊎ (has_more_keys s.table s.pattern rest ≡ true) → ok_start None ≡ told
    none-answers says more = none-told-there (said-by place read clean) (moved-nothing place inner (said-here ∙ sym says)) more

  -- ---- behind a fault of the rest from a place on

  -- no rest has a fault behind this one
  abbrev IsLastFault : TextFault → Type 0
  IsLastFault at = (place : ℕ) → Alone place → at.offset < place → fault (drop place text) ≡ None

  last-of : (at : TextFault) → IsFaultFrom s.table text at → IsLastFault at → last_fault s.table text ≡ Some at
  last-of at from last = found (fault (drop from.place text)) refl
    where
      found : (o : Option TextFault) → fault (drop from.place text) ≡ o → last_fault s.table text ≡ Some at
      found None is = absurd (none-some at (sym (ap (fault_moved from.place) is) ∙ from.is))
      found (Some f) is =
          let here : Some (text_fault_moved from.place f) ≡ Some at = sym (ap (fault_moved from.place) is) ∙ from.is in
          let offset = offset_of (text_fault_moved from.place f) at here in
          last-is laws.answers laws.starters s laws.all p text few from.place f from.begins is (λ place alone behind. last place alone (omega (arith, behind, offset))) ∙ here

  -- where no place stands behind it, it is told
  pub last-answers : (at : TextFault) → IsFaultFrom s.table text at → ((place : ℕ) → Alone place → at.offset < place → ⊥) → Err at ≡ told
  last-answers at from none =
      let last = last-of at from (λ place alone behind. absurd (none place alone behind)) in
      sym (fault-told at None last (first-none (length text) (λ place. nat_lt at.offset place && starts_safely s.table (drop place text)) (λ j passes less.
      let parts = and_parts (nat_lt at.offset j) (starts_safely s.table (drop j text)) passes in
      none j (begins-alone laws.starters.texts s.table text j parts.1) (ltb-true at.offset j parts.0))))

  -- where the rest from the next one on has no fault and no range, and no more keys than the pattern, it is told too
  pub fault-answers : (at : TextFault) (next : ℕ) → IsFaultFrom s.table text at → Alone next → at.offset < next → ((place : ℕ) → Alone place → at.offset < place → next ≤ place) →
      Ok None ≡ said_up_to (length text) (answer_from s p text next) → has_more_keys s.table s.pattern (drop next text) ≡ false → Err at ≡ told
  fault-answers at next from alone behind nearest says no_more =
      let within = alone-within laws.answers laws.starters s laws.all p text few next alone in
      let clean = (rest-said laws.starters.texts s p text next None (omega (arith, within)) says).0 in
      let last = last-of at from (λ place other later. good-later laws.answers laws.starters s laws.all p text few next place (nearest place other later) other clean) in
      let test : ℕ → Bool = λ place. nat_lt at.offset place && starts_safely s.table (drop place text) in
      let is : next_read s.table text at ≡ Some next = first-is (length text) test next
      (and_from (nat_lt at.offset next) (starts_safely s.table (drop next text)) (lt-ltb at.offset next behind) (alone-begins s.table text next alone)) within
      (λ j passes less.
      let parts = and_parts (nat_lt at.offset j) (starts_safely s.table (drop j text)) passes in
      nearest j (begins-alone laws.starters.texts s.table text j parts.1) (ltb-true at.offset j parts.0)) in
      let read : Read laws.answers laws.starters s laws.all p text few next = inr alone in
      let own : IsSaidFrom next = record {
        from = next;
        before = omega arith;
        good = clean;
        found = λ start found. fault-told at (Some next) last is ∙ found-there at next start found;
        none = λ none more. fault-told at (Some next) last is ∙ none-there at next none ∙ elim more [
          | inl zero ↦ absurd (omega (arith, zero, behind))
          | inr many ↦ absurd (false≢true (sym no_more ∙ many))
        ];
      } in
      let le : next ≤ length text = omega (arith, within) in
      let silent = moved-nothing next (inner next read le clean) (said-here next read le clean ∙ sym says) in
      let nothing = none-ends next read le clean own silent (inl (omega arith)) in
      sym (fault-told at (Some next) last is ∙ none-there at next nothing ∙ ap (λ b. unless_fault (not b) (Some at) None) no_more)

  -- of a text without a fault the match is told
  pub good-answers : fault text ≡ None → told ≡ Ok (ends_of text)
  good-answers none = elim (no-fault-or-behind laws.answers laws.starters s laws.all p text few 0 (inl refl) none) [
    | inl good ↦ none-told good.0
    | inr behind ↦ let before = behind.before in let later = behind.later in absurd (omega (arith, before, later))
  ]

-- ---- what is said from a place on

-- where a search may begin that goes back from the end
pub begun-at : (table other : TableMap) (text : List ℕ) (end len place : ℕ) → table ≡ other → end ≡ length text → (place ≡ 0) ⊎ (IsSafeOffset other text place × (place + len < end)) →
    (place ≡ 0) ⊎ (IsSafeOffset table text place × (place < length text))
begun-at table other text end len place same is (inl zero) = inl zero
begun-at table other text end len place same is (inr safe) =
    let less = safe.1 in inr (subst (λ t. IsSafeOffset t text place) (sym same) safe.0, omega (arith, is, less))

fault-said : (to : ℕ) (at : Option TextFault) (last : Option (ℕ × ℕ)) (f : TextFault) (b : Bool) → Err f ≡ unless_fault b at last → at ≡ Some f
fault-said to None last f true e = cc
fault-said to (Some g) last f true e = cc
fault-said to at last f false e = cc

-- the fault that the rest from there on says is its own
pub fault-from : (s : Sought) (p text : List ℕ) (place : ℕ) (f : TextFault) → (place ≡ 0) ⊎ IsSafeOffset s.table text place → Err f ≡ said_up_to (length text) (answer_from s p text place) →
    IsFaultFrom s.table text f
fault-from s p text place f begins says =
    let a = answer_from s p text place in
    record { place = place; begins = begins; is = ap (fault_moved place) (sym (fault-is s p (drop place text))) ∙ fault-said (length text) a.fault (last_up_to (length text) a.ranges) f (is_fault_before (length text) a.fault) says }

-- going back from the end, what is said is told
module _ (s : Sought) (laws : EndLaws s) (p text : List ℕ) (few : length text ≤ most_bytes) (compiled : IsCompiledFrom s p) (said : Said) (t : IsToldOfEnd s p text said) where
  reads : Read laws.answers laws.starters s laws.all p text few t.place
  reads = elim t.begins [ inl zero ↦ inl zero | inr safe ↦ inr safe.0 ]

  within : t.place ≤ length text
  within = elim t.begins [ inl zero ↦ omega (arith, zero) | inr safe ↦ let less = safe.1 in omega (arith, less) ]

  clean : (found : Option (ℕ × ℕ)) → said ≡ Ok found → fault (drop t.place text) ≡ None
  clean found is = (rest-said laws.starters.texts s p text t.place found within (sym is ∙ t.says)).0

  pub range-ends : (range : ℕ × ℕ) → said ≡ Ok (Some range) → start_told s p text (ok_range range) ≡ ends_answer s.table s.pattern p text
  range-ends range is = range-answers s laws p text few compiled t.place reads within (clean (Some range) is) range (sym is ∙ t.says)

  pub none-ends-here : said ≡ Ok None → ok_start None ≡ ends_answer s.table s.pattern p text
  none-ends-here is = none-answers s laws p text few compiled t.place reads within (clean None is) (sym is ∙ t.says) (t.none is)

  pub fault-begins : (f : TextFault) → said ≡ Err f → IsFaultFrom s.table text f
  fault-begins f is = fault-from s p text t.place f reads (sym is ∙ t.says)

-- a fault that is said stands before the end
pub before-only : (next to : ℕ) (r : Said) → IfErr r (λ f. (next ≤ f.offset) × (f.offset < to)) → IfErr r (λ f. f.offset < to)
before-only next to (Ok found) h = tt
before-only next to (Err f) h = h.1

-- what the rest from a safe offset on says, and nothing else
pub told-there : (s : Sought) (p text : List ℕ) (next : ℕ) (said : Said) → IsSafeOffset s.table text next → next < length text → said ≡ said_up_to (length text) (answer_from s p text next) →
    (said ≡ Ok None → (next ≡ 0) ⊎ HasMoreKeys s (drop next text)) → IsToldOfEnd s p text said
told-there s p text next said alone within says none = record { place = next; begins = inr (alone, within); says = says; none = none }

pub alone-inside : (table : TableMap) (text : List ℕ) (place : ℕ) → IsSafeOffset table text place → place < length text
alone-inside table text place o = stands-within text place o.character (stands-from text place o.character o.whole)
