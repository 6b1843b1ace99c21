-- The parts of a text have the answer of the whole.
use Rattle.std.proofs.Common.{◌≡◌, ◌⊎◌, ℕ, ◌<◌, ◌≤◌, false, nat_le, nat_lt, Contains, List, [], ◌∷◌, ◌++◌, length, Option, Some, None, refl, sym, ap, ap₂, ◌∙◌, subst, arith, inl, inr}
use Rattle.std.proofs.lemmas.Bool.{cases_Bool, cond-true, cond-false, leb-true, le-leb, lt-leb, lt-ltb, le-ltb, leb-false}
use Rattle.std.proofs.lemmas.List.{length-take-le}
use Rattle.collation_table.specs.Table.{TableMap}
use Rattle.collation_elements.specs.declared.settings.Strength.{Strength}
use Rattle.collation_elements.specs.declared.settings.Variable.{Variable}
use Rattle.collation_elements.specs.Boundaries.{boundaries}
use Rattle.collation_pattern.specs.SortKey.{text_sort_key}
use Rattle.collation_matches.specs.declared.faults.TextFault.{TextFault}
use Rattle.collation_matches.specs.declared.select.Select.{Select}
use Rattle.collation_matches.specs.declared.select.Select.TheVariants.{All}
use Rattle.collation_matches.specs.Answer.{Answer, answer, answer_at}
use Rattle.collation_matches.specs.GoodPrefix.{most_bytes, fault, good_prefix, prefix_at}
use Rattle.collation_matches.specs.Matches.{ranges_among, ranges_with_sort_key, matches}
use Rattle.collation_matches.specs.Offsets.{answer_moved, answer_from}
use Rattle.collation_matches.specs.OffsetLaws.{ranges_from, MayGoOnFrom}
use Rattle.collation_matches.specs.PartLaws.{ranges_before, is_at_fault_by, answer_of_parts, AreCutsFrom, PartsGiveTheAnswer}
use Rattle.collation_matches.specs.Selecting.{selected_answer}
use Rattle.collation_matches.specs.Sought.{Sought, answer_to}
use Rattle.collation_matches.proofs.BridgeLists.{In, Rising, rising_filter}
use Rattle.collation_matches.proofs.BridgeMatches.{rising_boundaries}
use Rattle.collation_matches.proofs.BridgeRanges.{Before, rising_ranges, rising_minimal}
use Rattle.collation_matches.proofs.OffsetAnswers.{moved-zero}
use Rattle.collation_matches.proofs.OffsetChains.{all-kept}
use Rattle.collation_matches.proofs.OffsetFaults.{RestLaws}
use Rattle.collation_matches.proofs.OffsetLemmas.{answers-from-boundaries}
use Rattle.collation_matches.proofs.SearchLemmas.{good_prefix_found}

-- ---- ranges that rise, parted at an offset

abbrev AreLate : ℕ → List (ℕ × ℕ) → Type 0
AreLate cut ranges = (r : ℕ × ℕ) → In ranges r → cut ≤ r.0

kept : (from : ℕ) (r : ℕ × ℕ) (rs : List (ℕ × ℕ)) → from ≤ r.0 → ranges_from from (r ∷ rs) ≡ r ∷ ranges_from from rs
kept from r rs le = cond-true (nat_le from r.0) (r ∷ ranges_from from rs) (ranges_from from rs) (le-leb from r.0 le)

left-out : (from : ℕ) (r : ℕ × ℕ) (rs : List (ℕ × ℕ)) → r.0 < from → ranges_from from (r ∷ rs) ≡ ranges_from from rs
left-out from r rs less = cond-false (nat_le from r.0) (r ∷ ranges_from from rs) (ranges_from from rs) (lt-leb from r.0 less)

late-from : (from : ℕ) (rs : List (ℕ × ℕ)) → AreLate from rs → ranges_from from rs ≡ rs
late-from from [] late = refl
late-from from (r ∷ rs) late = kept from r rs (late r (inl refl)) ∙ ap (λ (l : List (ℕ × ℕ)). r ∷ l) (late-from from rs (λ s h. late s (inr h)))

none-before : (cut : ℕ) (rs : List (ℕ × ℕ)) → AreLate cut rs → ranges_before cut rs ≡ []
none-before cut [] late = refl
none-before cut (r ∷ rs) late =
    cond-false (nat_lt r.0 cut) (r ∷ ranges_before cut rs) (ranges_before cut rs) (le-ltb r.0 cut (late r (inl refl)))
    ∙ none-before cut rs (λ s h. late s (inr h))

before-late : (r : ℕ × ℕ) (rs : List (ℕ × ℕ)) (cut : ℕ) → Rising Before (r ∷ rs) → cut ≤ r.0 → AreLate cut (r ∷ rs)
before-late r rs cut up le s (inl e) = subst (λ (q : ℕ × ℕ). cut ≤ q.0) e le
before-late r rs cut up le s (inr h) = elim (up.0 s h) [ inl less ↦ omega (arith, le, less) | inr same ↦ omega (arith, le, same.0) ]

pub parted : (from cut : ℕ) (rs : List (ℕ × ℕ)) → from ≤ cut → Rising Before rs →
    ranges_before cut (ranges_from from rs) ++ ranges_from cut rs ≡ ranges_from from rs
parted from cut [] le up = refl
parted from cut (r ∷ rs) le up =
    elim (cases_Bool (nat_le cut r.0)) [
      | inl here ↦
          let at = leb-true cut r.0 here in
          let late = before-late r rs cut up at in
          let later : AreLate from (r ∷ rs) = λ s h. let l = late s h in omega (arith, le, l) in
          ap₂ (λ (a b : List (ℕ × ℕ)). a ++ b)
          (ap (ranges_before cut) (late-from from (r ∷ rs) later) ∙ none-before cut (r ∷ rs) late)
          (late-from cut (r ∷ rs) late)
          ∙ sym (late-from from (r ∷ rs) later)
      | inr early ↦
          let less : r.0 < cut = leb-false cut r.0 early in
          elim (cases_Bool (nat_le from r.0)) [
            | inl is ↦
                let at = leb-true from r.0 is in
                ap₂ (λ (a b : List (ℕ × ℕ)). a ++ b)
                (ap (ranges_before cut) (kept from r rs at) ∙ cond-true (nat_lt r.0 cut) (r ∷ ranges_before cut (ranges_from from rs)) (ranges_before cut (ranges_from from rs)) (lt-ltb r.0 cut less))
                (left-out cut r rs less)
                ∙ ap (λ (l : List (ℕ × ℕ)). r ∷ l) (parted from cut rs le up.1)
                ∙ sym (kept from r rs at)
            | inr is ↦
                let before : r.0 < from = leb-false from r.0 is in
                ap₂ (λ (a b : List (ℕ × ℕ)). a ++ b) (ap (ranges_before cut) (left-out from r rs before)) (left-out cut r rs less)
                ∙ parted from cut rs le up.1
                ∙ sym (left-out from r rs before)
          ]
    ]

-- ---- the ranges of an answer rise

module _ (table : TableMap) (strength : Strength) (variable : Variable) (pattern : List ℕ) where
  matches-rise : (text : List ℕ) → Rising Before (matches table strength variable pattern text)
  matches-rise text =
      let key = text_sort_key table strength variable pattern in
      rising_minimal (ranges_with_sort_key table strength variable key text) (rising_filter Before _ (ranges_among (boundaries table text)) (rising_ranges (boundaries table text) (rising_boundaries table text)))

  answer-rises : (bytes : List ℕ) (at : Option TextFault) → Rising Before (answer_at table strength variable pattern bytes at).ranges
  answer-rises bytes None = matches-rise bytes
  answer-rises bytes (Some at) = rising_filter Before _ (matches table strength variable pattern (good_prefix bytes)) (matches-rise (good_prefix bytes))

-- ---- parts

module _ (laws : RestLaws) (s : Sought) (text bytes : List ℕ) (all : s.select ≡ All) (few : length bytes ≤ most_bytes) where
  abbrev whole_answer : Answer
  whole_answer = answer_to s text bytes

  abbrev of_rest : ℕ → Answer
  of_rest from = record { ranges = ranges_from from whole_answer.ranges; fault = whole_answer.fault }

  rises : Rising Before whole_answer.ranges
  rises =
      let P : Select → Type 0 = λ select. Rising Before (selected_answer select (answer s.table s.pattern.strength s.pattern.variable text bytes)).ranges in
      subst P (sym all) (answer-rises s.table s.pattern.strength s.pattern.variable text bytes (fault bytes))

  its-fault : (at : Option TextFault) → (answer_at s.table s.pattern.strength s.pattern.variable text bytes at).fault ≡ at
  its-fault None = refl
  its-fault (Some at) = refl

  -- where no fault stands up to a place, that is before the first one
  before-fault : (cut : ℕ) (at : Option TextFault) → fault bytes ≡ at → is_at_fault_by cut at ≡ false → (fault bytes ≡ None) ⊎ (cut < length (good_prefix bytes))
  before-fault cut None is later = inl is
  before-fault cut (Some at) is later =
      let found = good_prefix_found laws.texts.text laws.texts.within bytes at is in
      let within = found.1.within in
      let len : length (good_prefix bytes) ≡ at.offset = ap (λ o. length (prefix_at bytes o)) is ∙ length-take-le at.offset bytes within in
      inr (omega (arith, len, leb-false at.offset cut later))

  may-go-on : (cut : ℕ) → ((fault bytes ≡ None) ⊎ (cut < length (good_prefix bytes)) → Contains (boundaries s.table (good_prefix bytes)) cut) →
      is_at_fault_by cut whole_answer.fault ≡ false → MayGoOnFrom s.table bytes cut
  may-go-on cut is later =
      let same : whole_answer.fault ≡ fault bytes = its-fault (fault bytes) in
      let before = before-fault cut (fault bytes) refl (ap (is_at_fault_by cut) (sym same) ∙ later) in
      record { few = few; boundary = is before; before_fault = before }

  pub of-parts : (from : ℕ) (cuts : List ℕ) → answer_from s text bytes from ≡ of_rest from → AreCutsFrom s.table bytes from cuts →
      answer_of_parts s text bytes from cuts ≡ of_rest from
  of-parts from [] here are = here
  of-parts from (cut ∷ cuts) here are =
      let a = answer_from s text bytes from in
      let later = answer_of_parts s text bytes cut cuts in
      let both : Answer → Answer → Answer = λ (x y : Answer). record { ranges = ranges_before cut x.ranges ++ y.ranges; fault = y.fault } in
      elim (cases_Bool (is_at_fault_by cut a.fault)) [
        | inl ends ↦ cond-true (is_at_fault_by cut a.fault) a (both a later) ends ∙ here
        | inr goes_on ↦
            let may = may-go-on cut are.1 (ap (λ (x : Answer). is_at_fault_by cut x.fault) (sym here) ∙ goes_on) in
            let next = of-parts cut cuts (answers-from-boundaries laws s text bytes cut all may) are.2 in
            cond-false (is_at_fault_by cut a.fault) a (both a later) goes_on
            ∙ ap₂ both here next
            ∙ ap (λ (rs : List (ℕ × ℕ)). let x : Answer = record { ranges = rs; fault = whole_answer.fault } in x) (parted from cut whole_answer.ranges are.0 rises)
      ]

  from-beginning : (a : Answer) → answer_moved 0 a ≡ record { ranges = ranges_from 0 a.ranges; fault = a.fault }
  from-beginning a =
      ap₂ (λ (rs : List (ℕ × ℕ)) (at : Option TextFault). let x : Answer = record { ranges = rs; fault = at } in x) (all-kept a.ranges) (sym (moved-zero a.fault))

  pub of-all : (cuts : List ℕ) → AreCutsFrom s.table bytes 0 cuts → answer_of_parts s text bytes 0 cuts ≡ whole_answer
  of-all cuts are =
      of-parts 0 cuts (from-beginning whole_answer) are
      ∙ ap (λ (rs : List (ℕ × ℕ)). let x : Answer = record { ranges = rs; fault = whole_answer.fault } in x) (late-from 0 whole_answer.ranges (λ r h. omega arith))

pub parts-give-the-answer : RestLaws → PartsGiveTheAnswer
parts-give-the-answer laws s text bytes cuts all few are = of-all laws s text bytes all few cuts are
