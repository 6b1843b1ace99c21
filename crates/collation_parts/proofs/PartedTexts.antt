-- What the parts between any places have together is the answer of these parts.
use Rattle.std.specs.Str.{chars}
use Rattle.std.proofs.Common.{◌≡◌, ◌⊎◌, ℕ, zero, suc, ◌+◌, ◌<◌, ◌≤◌, nat_le, true, false, List, [], ◌∷◌, ◌++◌, length, take, drop, nat_lt, Option, Some, None, is_none, refl, sym, ap, ap₂, ◌∙◌, subst, arith, inl, inr}
use Rattle.std.proofs.lemmas.Bool.{cases_Bool, cases_lt, cond-true, cond-false, leb-true, le-ltb, ltb-true}
use Rattle.std.proofs.lemmas.List.{drop_all, length-drop, length-take}
use Rattle.std.proofs.lemmas.Option.{none-some}
use Rattle.std.proofs.lemmas.Str.{chars-nil}
use Rattle.utf8_cut.specs.Characters.{characters_end}
use Rattle.nfd_points.specs.PointFaults.{point_fault}
use Rattle.collation_table.specs.Table.{TableMap}
use Rattle.collation_elements.specs.Context.{BoundariesAreStarts}
use Rattle.collation_elements.specs.declared.settings.Strength.{Strength}
use Rattle.collation_elements.specs.declared.settings.Variable.{Variable}
use Rattle.collation_elements.specs.declared.keys.Key.{Key}
use Rattle.collation_matches.specs.declared.faults.TextFault.{TextFault}
use Rattle.collation_matches.specs.Answer.{Answer, answer, answer_at}
use Rattle.collation_matches.specs.ByClustersLaws.{matches_are_found}
use Rattle.collation_matches.specs.GoodPrefix.{most_bytes, seen, whole, byte_fault, first_of, fault, good_prefix, prefix_at}
use Rattle.collation_matches.specs.Matches.{matches}
use Rattle.collation_matches.specs.Offsets.{range_moved, fault_moved, text_fault_moved, answer_from}
use Rattle.collation_matches.specs.PartLaws.{ranges_before, is_at_fault_by, answer_of_parts, PartsGiveTheAnswer}
use Rattle.collation_matches.specs.Sought.{Sought, IsCompiledFrom, answer_to}
use Rattle.collation_matches.proofs.BridgeLists.{In, in_filter, in_map}
use Rattle.collation_matches.proofs.OffsetBounds.{matches-within, answered-within, answer-fault-is, fault-within}
use Rattle.collation_matches.proofs.OffsetFaults.{RestLaws}
use Rattle.collation_matches.proofs.OffsetLemmas.{answered-long}
use Rattle.collation_matches.proofs.SearchLemmas.{either, no_fault}
use Rattle.collation_matches.proofs.SelectedInTime.{selected-among}
use Rattle.collation_parts.specs.Parts.{fault_by, part_answer, answer_in_parts}
use Rattle.collation_parts.specs.PartedLaws.{PartsHaveTheirAnswer, PartsHaveTheWhole}
use Rattle.collation_parts.proofs.PartAnswers.{before-all, fault_by-here}

-- ---- no text

abbrev no_bytes : List ℕ
no_bytes = []

take-none : (n : ℕ) → take n no_bytes ≡ no_bytes
take-none zero = refl
take-none (suc n) = refl

none-below : (n : ℕ) → nat_lt n 0 ≡ false
none-below n = le-ltb n 0 (omega arith)

no-fault-in-nothing : fault [] ≡ None
no-fault-in-nothing =
    let none : seen no_bytes ≡ no_bytes = take-none most_bytes in
    let points : point_fault (chars (whole (seen no_bytes))) ≡ None =
    ap (λ bs. point_fault (chars (whole bs))) none ∙ ap (λ bs. point_fault (chars bs)) (take-none (characters_end no_bytes)) ∙ ap point_fault chars-nil ∙ no_fault 0 0 in
    let few : nat_lt (characters_end (seen no_bytes)) (length (seen no_bytes)) ≡ false =
    ap (λ bs. nat_lt (characters_end bs) (length bs)) none ∙ none-below (characters_end no_bytes) in
    let ill : TextFault = record { kind = 31; offset = characters_end (seen no_bytes) } in
    ap (λ o. first_of o (byte_fault no_bytes)) points
    ∙ cond-false (nat_lt (characters_end (seen no_bytes)) (length (seen no_bytes))) (Some ill) None few

-- ---- ranges before a fault

fault-bounds : (table : TableMap) (strength : Strength) (variable : Variable) (pattern bytes : List ℕ) (at : TextFault) (r : ℕ × ℕ) → fault bytes ≡ Some at →
    In (answer table strength variable pattern bytes).ranges r → r.0 < at.offset
fault-bounds table strength variable pattern bytes at r is h =
    let text = good_prefix bytes in
    let settled_there = subst (λ (a : Answer). In a.ranges r) (ap (answer_at table strength variable pattern bytes) is) h in
    let m = in_filter (λ range. nat_lt range.1 (length text)) (matches table strength variable pattern text) r settled_there in
    let within = matches-within table strength variable pattern text r m.0 in
    let ends = ltb-true r.1 (length text) m.1 in
    let short : length text ≡ length (take at.offset bytes) = ap (λ (o : Option TextFault). length (prefix_at bytes o)) is in
    omega (arith, within.0, ends, short, length-take at.offset bytes)

-- ---- one part

module _ (laws : RestLaws) (bounded : BoundariesAreStarts) (s : Sought) (found_law : matches_are_found s.table) (text bytes : List ℕ)
    (compiled : IsCompiledFrom s text) (some : 0 < length s.pattern.keys) (few : length bytes ≤ most_bytes)
  where
    abbrev here : ℕ → Answer
    here from = answer_from s text bytes from

    fault-here : (from : ℕ) → (here from).fault ≡ fault_moved from (fault (drop from bytes))
    fault-here from = ap (fault_moved from) (answer-fault-is s.table s.pattern.strength s.pattern.variable text (drop from bytes))

    -- a range from there on is one of the rest
    in-rest : (from : ℕ) (r : ℕ × ℕ) → In (here from).ranges r →
        (q : ℕ × ℕ) × In (answer s.table s.pattern.strength s.pattern.variable text (drop from bytes)).ranges q × (range_moved from q ≡ r)
    in-rest from r h =
        let all = (answer s.table s.pattern.strength s.pattern.variable text (drop from bytes)).ranges in
        let m = in_map (range_moved from) (answer_to s text (drop from bytes)).ranges r h in
        (m.0, selected-among s.select all m.0 m.1, m.2)

    same-answer : (a b : Answer) → a.ranges ≡ b.ranges → a.fault ≡ b.fault → a ≡ b
    same-answer a b ranges ends = ap₂ (λ (rs : List (ℕ × ℕ)) (at : Option TextFault). let x : Answer = record { ranges = rs; fault = at } in x) ranges ends

    -- where the text ends with a part, that has all from there on
    part-ended : (from cut : ℕ) → is_at_fault_by cut (here from).fault ≡ true → part_answer s text bytes from cut ≡ here from
    part-ended from cut ends =
        same-answer (part_answer s text bytes from cut) (here from)
        (before-all cut (here from).ranges (λ r h. by_fault r h (either (fault (drop from bytes)))))
        (cond-true (is_at_fault_by cut (here from).fault) (here from).fault None ends)
      where
        by_fault : (r : ℕ × ℕ) → In (here from).ranges r → (fault (drop from bytes) ≡ None) ⊎ ((at : TextFault) × (fault (drop from bytes) ≡ Some at)) → r.0 < cut
        by_fault r h (inl none) =
            let no : true ≡ false = sym ends ∙ ap (is_at_fault_by cut) (fault-here from ∙ ap (fault_moved from) none) in absurd cc
        by_fault r h (inr at) =
            let q = in-rest from r h in
            let told : nat_le (from + at.0.offset) cut ≡ true = sym (ap (is_at_fault_by cut) (fault-here from ∙ ap (fault_moved from) at.1)) ∙ ends in
            let le = leb-true (from + at.0.offset) cut told in
            let before = fault-bounds s.table s.pattern.strength s.pattern.variable text (drop from bytes) at.0 q.0 at.1 q.1 in
            let moved = ap (λ (p : ℕ × ℕ). p.0) q.2 in
            omega (arith, le, before, moved)

    -- the part up to the end of the text has all from there on
    last-part : (from : ℕ) → part_answer s text bytes from (length bytes) ≡ here from
    last-part from =
        same-answer (part_answer s text bytes from (length bytes)) (here from)
        (before-all (length bytes) (here from).ranges (λ r h.
        let q = in-rest from r h in
        let rest = drop from bytes in
        let short = length-drop from bytes in
        let key = subst (λ (ks : List Key). 0 < length ks) compiled.keys some in
        let long = answered-long laws bounded s.table found_law s.pattern.strength s.pattern.variable text compiled.text key rest (omega (arith, few, short)) q.0 q.1 in
        let within = answered-within s.table s.pattern.strength s.pattern.variable text rest q.0 q.1 in
        let moved = ap (λ (p : ℕ × ℕ). p.0) q.2 in
        omega (arith, long, within.1, short, moved)))
        (ap (fault_by (length bytes)) (fault-here from) ∙ all-faults (either (fault (drop from bytes))) ∙ sym (fault-here from))
      where
        all-faults : (fault (drop from bytes) ≡ None) ⊎ ((at : TextFault) × (fault (drop from bytes) ≡ Some at)) →
            fault_by (length bytes) (fault_moved from (fault (drop from bytes))) ≡ fault_moved from (fault (drop from bytes))
        all-faults (inl none) =
            ap (λ o. fault_by (length bytes) (fault_moved from o)) none ∙ sym (ap (fault_moved from) none)
        all-faults (inr at) =
            let within = fault-within laws.texts.text laws.texts.within (drop from bytes) at.0 at.1 in
            let le : from + at.0.offset ≤ length bytes =
            elim (cases_lt (length bytes) from) [
              | inl behind ↦
                  let nothing = ap fault (drop_all from bytes (omega arith)) in
                  absurd (none-some at.0 (sym (sym at.1 ∙ nothing ∙ no-fault-in-nothing)))
              | inr here' ↦ omega (arith, here', within, length-drop from bytes)
            ] in
            ap (λ o. fault_by (length bytes) (fault_moved from o)) at.1
            ∙ fault_by-here (length bytes) (text_fault_moved from at.0) le
            ∙ sym (ap (fault_moved from) at.1)

    -- ---- all parts

    pub in-parts : (from : ℕ) (cuts : List ℕ) → answer_in_parts s text bytes from cuts ≡ answer_of_parts s text bytes from cuts
    in-parts from [] = last-part from
    in-parts from (cut ∷ cuts) =
        let a = here from in
        let part = part_answer s text bytes from cut in
        let mine = answer_in_parts s text bytes cut cuts in
        let theirs = answer_of_parts s text bytes cut cuts in
        let both : Answer → Answer → Answer = λ (x y : Answer). record { ranges = x.ranges ++ y.ranges; fault = y.fault } in
        let parted : Answer → Answer → Answer = λ (x y : Answer). record { ranges = ranges_before cut x.ranges ++ y.ranges; fault = y.fault } in
        elim (cases_Bool (is_at_fault_by cut a.fault)) [
          | inl ends ↦
              let whole_part = part-ended from cut ends in
              let is_there : is_none part.fault ≡ false = ap (λ (x : Answer). is_none x.fault) whole_part ∙ some-fault cut a.fault ends in
              cond-false (is_none part.fault) (both part mine) part is_there
              ∙ whole_part
              ∙ sym (cond-true (is_at_fault_by cut a.fault) a (parted a theirs) ends)
          | inr goes_on ↦
              let none : is_none part.fault ≡ true = ap is_none (cond-false (is_at_fault_by cut a.fault) a.fault None goes_on) in
              cond-true (is_none part.fault) (both part mine) part none
              ∙ ap (both part) (in-parts cut cuts)
              ∙ sym (cond-false (is_at_fault_by cut a.fault) a (parted a theirs) goes_on)
        ]
      where
        some-fault : (cut : ℕ) (at : Option TextFault) → is_at_fault_by cut at ≡ true → is_none at ≡ false
        some-fault cut None ends = sym ends
        some-fault cut (Some f) ends = refl

pub parts-have-their-answer : RestLaws → BoundariesAreStarts → (table : TableMap) → matches_are_found table → PartsHaveTheirAnswer table
parts-have-their-answer laws bounded table found_law s text bytes from cuts same compiled some few =
    in-parts laws bounded s (subst matches_are_found (sym same) found_law) text bytes compiled some few from cuts

pub parts-have-the-whole : PartsGiveTheAnswer → (table : TableMap) → PartsHaveTheirAnswer table → PartsHaveTheWhole table
parts-have-the-whole law table parts s text bytes cuts same compiled some all few are =
    parts s text bytes 0 cuts same compiled some few ∙ law s text bytes cuts all few are
