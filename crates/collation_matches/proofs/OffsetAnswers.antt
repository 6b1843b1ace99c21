-- The answer to the rest of some bytes is that of the bytes, from a boundary before their first fault on.
use Rattle.std.proofs.Common.{◌≡◌, ℕ, ◌+◌, ◌≤◌, nat_lt, List, [], length, take, drop, map, Option, Some, None, refl, sym, ap, ◌∙◌, subst, arith, inl, inr}
use Rattle.std.proofs.lemmas.Bool.{ltb-true}
use Rattle.std.proofs.lemmas.List.{drop-take, drop_all, take_all}
use Rattle.std.proofs.lemmas.Option.{none-some}
use Rattle.std.specs.Str.{chars, IsUtf8}
use Rattle.utf8_cut.specs.Characters.{computing}
use Rattle.nfd_points.specs.PointFaults.{fault_from, point_fault}
use Rattle.collation_table.specs.Table.{TableMap}
use Rattle.collation_elements.specs.declared.settings.Strength.{Strength}
use Rattle.collation_elements.specs.declared.settings.Variable.{Variable}
use Rattle.collation_elements.specs.Boundaries.{boundaries}
use Rattle.collation_pattern.specs.SortKey.{text_sort_key}
use Rattle.collation_matches.specs.declared.faults.TextFault.{TextFault}
use Rattle.collation_matches.specs.Answer.{Answer, answer, answer_at}
use Rattle.collation_matches.specs.GoodPrefix.{most_bytes, seen, whole, byte_fault, first_of, fault, good_prefix, prefix_at}
use Rattle.collation_matches.specs.Matches.{ranges_among, ranges_with_sort_key, matches, settled}
use Rattle.collation_matches.specs.Offsets.{range_moved, text_fault_moved, fault_moved, answer_moved}
use Rattle.collation_matches.specs.OffsetLaws.{ranges_from, MayGoOnFrom}
use Rattle.collation_matches.proofs.BridgeLists.{In, in_filter}
use Rattle.collation_matches.proofs.BridgeRanges.{in_ranges, in_minimal}
use Rattle.collation_matches.proofs.LagLaw.{contains-in, in-contains}
use Rattle.collation_matches.proofs.LagTexts.{no_fault_text}
use Rattle.collation_matches.proofs.OffsetBoundaries.{HasBoundariesFrom, boundaries-from, boundary-is, cut-at}
use Rattle.collation_matches.proofs.OffsetFaults.{RestLaws, cut-fault}
use Rattle.collation_matches.proofs.OffsetMatches.{matches-from, settled-from}
use Rattle.collation_matches.proofs.SearchLemmas.{IsGoodPrefix, either, good_prefix_found, whole_of_text}
use Rattle.collation_matches.proofs.TextCheckLemmas.{seen_short}

no-point_fault : RestLaws → (bytes : List ℕ) → length bytes ≤ most_bytes → fault bytes ≡ None → point_fault (chars bytes) ≡ None
no-point_fault laws bytes few none =
    let same : whole (seen bytes) ≡ bytes = ap whole (seen_short bytes few) ∙ whole_of_text laws.texts.longest bytes (no_fault_text laws.texts bytes none) in
    elim (either (point_fault (chars (whole (seen bytes))))) [
      | inl good ↦ ap (λ (t : List ℕ). point_fault (chars t)) (sym same) ∙ good
      | inr some ↦
          let at : TextFault = record { kind = some.0.1; offset = some.0.0 } in
          let reported : Some at ≡ None = sym (ap (λ o. first_of o (byte_fault bytes)) some.1) ∙ none in
          absurd (none-some at (sym reported))
    ]

-- what stands before the first fault is a good text
pub record GoodText (bytes : List ℕ) : Type 0 where
  pub end : ℕ
  pub good : IsGoodPrefix bytes (good_prefix bytes) end

pub good-text : RestLaws → (bytes : List ℕ) → length bytes ≤ most_bytes → GoodText bytes
good-text laws bytes few =
    elim (either (fault bytes)) [
      | inl none ↦
          let same : good_prefix bytes ≡ bytes = ap (prefix_at bytes) none in
          record {
            end = length bytes;
            good = record {
              taken = take_all (length bytes) bytes (omega arith) ∙ sym same;
              within = omega arith;
              text = subst IsUtf8 (sym same) (no_fault_text laws.texts bytes none);
              sound = subst (λ (t : List ℕ). point_fault (chars t) ≡ None) (sym same) (no-point_fault laws bytes few none);
            };
          }
      | inr some ↦
          let found = good_prefix_found laws.texts.text laws.texts.within bytes some.0 some.1 in
          let same : good_prefix bytes ≡ take some.0.offset bytes = ap (prefix_at bytes) some.1 in
          let here : good_prefix bytes ≡ found.0 = same ∙ found.1.taken in
          record {
            end = some.0.offset;
            good = subst (λ t. IsGoodPrefix bytes t some.0.offset) (sym here) found.1;
          }
    ]

-- ---- the fault

nil-fault : fault [] ≡ None
unfolding computing fault_from
nil-fault = refl

pub moved-zero : (at : Option TextFault) → at ≡ fault_moved 0 at
moved-zero None = refl
moved-zero (Some at) = let same : at.offset ≡ 0 + at.offset = omega arith in ap (λ n. Some (record { kind = at.kind; offset = n })) same

pub fault-from : RestLaws → (table : TableMap) (bytes : List ℕ) (from : ℕ) → MayGoOnFrom table bytes from → fault bytes ≡ fault_moved from (fault (drop from bytes))
fault-from laws table bytes from m =
    let g = good-text laws bytes m.few in
    elim (boundary-is table (good_prefix bytes) from (contains-in (boundaries table (good_prefix bytes)) from m.boundary)) [
      | inl start ↦ subst (λ n. fault bytes ≡ fault_moved n (fault (drop n bytes))) (sym start) (moved-zero (fault bytes))
      | inr more ↦ elim more [
        | inl last ↦
            elim m.before_fault [
              | inl none ↦
                  let all : drop from bytes ≡ [] = drop_all from bytes (omega (arith, last, ap (λ (t : List ℕ). length t) (ap (prefix_at bytes) none))) in
                  none ∙ ap (fault_moved from) (sym (ap fault all ∙ nil-fault))
              | inr less ↦ absurd (omega (arith, less, last))
            ]
        | inr inside ↦
            cut-fault laws table bytes (good_prefix bytes) g.end from g.good m.few (cut-at laws.parts table (good_prefix bytes) from g.good.text inside)
      ]
    ]

-- ---- the answer

module _ (laws : RestLaws) (table : TableMap) (strength : Strength) (variable : Variable) (pattern bytes : List ℕ) (from : ℕ) (m : MayGoOnFrom table bytes from) where
  abbrev rest : List ℕ
  rest = drop from bytes

  abbrev of : List ℕ → Option TextFault → Answer
  of t at = answer_at table strength variable pattern t at

  bounds : HasBoundariesFrom table (good_prefix bytes) from
  bounds = boundaries-from laws.parts table (good_prefix bytes) from (good-text laws bytes m.few).good.text (contains-in (boundaries table (good_prefix bytes)) from m.boundary)

  -- where the rest has a fault, what stands before it is the rest of what stands before the fault of all
  prefix-from : (at : TextFault) → fault rest ≡ Some at → good_prefix rest ≡ drop from (good_prefix bytes)
  prefix-from at here =
      let all : fault bytes ≡ Some (text_fault_moved from at) = fault-from laws table bytes from m ∙ ap (fault_moved from) here in
      ap (prefix_at rest) here ∙ sym (drop-take from at.offset bytes) ∙ ap (drop from) (sym (ap (prefix_at bytes) all))

  moved-answer : (a : Option TextFault) → fault rest ≡ a → answer_moved from (of rest (fault rest)) ≡ record { ranges = ranges_from from (of bytes (fault bytes)).ranges; fault = (of bytes (fault bytes)).fault }
  moved-answer None here =
      let none : fault bytes ≡ None = fault-from laws table bytes from m ∙ ap (fault_moved from) here in
      let text : good_prefix bytes ≡ bytes = ap (prefix_at bytes) none in
      let ranges = matches-from table strength variable pattern bytes from (subst (λ (t : List ℕ). HasBoundariesFrom table t from) text bounds) in
      let moved : Option TextFault → Answer = λ o. answer_moved from (of rest o) in
      let same : Option TextFault → Answer = λ o. record { ranges = ranges_from from (of bytes o).ranges; fault = (of bytes o).fault } in
      ap moved here ∙ ap (λ (rs : List (ℕ × ℕ)). let a : Answer = record { ranges = rs; fault = None } in a) ranges ∙ ap same (sym none)
  moved-answer (Some at) here =
      let all : fault bytes ≡ Some (text_fault_moved from at) = fault-from laws table bytes from m ∙ ap (fault_moved from) here in
      let ranges =
      ap (λ (t : List ℕ). map (range_moved from) (settled table strength variable pattern t)) (prefix-from at here)
      ∙ settled-from table strength variable pattern (good_prefix bytes) from bounds in
      let moved : Option TextFault → Answer = λ o. answer_moved from (of rest o) in
      let same : Option TextFault → Answer = λ o. record { ranges = ranges_from from (of bytes o).ranges; fault = (of bytes o).fault } in
      ap moved here ∙ ap (λ (rs : List (ℕ × ℕ)). let a : Answer = record { ranges = rs; fault = Some (text_fault_moved from at) } in a) ranges ∙ ap same (sym all)

  pub answer-from : answer_moved from (answer table strength variable pattern rest)
      ≡ record { ranges = ranges_from from (answer table strength variable pattern bytes).ranges; fault = (answer table strength variable pattern bytes).fault }
  answer-from = moved-answer (fault rest) refl

-- ---- the ends of ranges

module _ (table : TableMap) (strength : Strength) (variable : Variable) (pattern bytes : List ℕ) (few : length bytes ≤ most_bytes) where
  match-boundaries : (text : List ℕ) (r : ℕ × ℕ) → In (matches table strength variable pattern text) r → In (boundaries table text) r.0 × In (boundaries table text) r.1 × (r.0 ≤ r.1)
  match-boundaries text r h =
      let key = text_sort_key table strength variable pattern in
      let m = in_minimal (ranges_with_sort_key table strength variable key text) r h in
      in_ranges (boundaries table text) r (in_filter _ (ranges_among (boundaries table text)) r m.0).0

  ends-at : (at : Option TextFault) → fault bytes ≡ at → (r : ℕ × ℕ) → In (answer_at table strength variable pattern bytes at).ranges r → MayGoOnFrom table bytes r.0 × MayGoOnFrom table bytes r.1
  ends-at None none r h =
      let text : bytes ≡ good_prefix bytes = sym (ap (prefix_at bytes) none) in
      let b = subst (λ (t : List ℕ). In (boundaries table t) r.0 × In (boundaries table t) r.1 × (r.0 ≤ r.1)) text (match-boundaries bytes r h) in (
        record { few = few; boundary = in-contains (boundaries table (good_prefix bytes)) r.0 b.0; before_fault = inl none },
        record { few = few; boundary = in-contains (boundaries table (good_prefix bytes)) r.1 b.1; before_fault = inl none },
      )
  ends-at (Some at) is r h =
      let text = good_prefix bytes in
      let k = in_filter (λ range. nat_lt range.1 (length text)) (matches table strength variable pattern text) r h in
      let less = ltb-true r.1 (length text) k.1 in
      let b = match-boundaries text r k.0 in (
        record { few = few; boundary = in-contains (boundaries table text) r.0 b.0; before_fault = inr (omega (arith, less, b.2)) },
        record { few = few; boundary = in-contains (boundaries table text) r.1 b.1; before_fault = inr less },
      )

  pub ends-cleanly : (r : ℕ × ℕ) → In (answer table strength variable pattern bytes).ranges r → MayGoOnFrom table bytes r.0 × MayGoOnFrom table bytes r.1
  ends-cleanly r h = ends-at (fault bytes) refl r h
