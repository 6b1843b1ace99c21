-- What is told from a place on is what the text says.
use Rattle.std.proofs.Common.{◌≡◌, ◌∙◌, ℕ, ◌+◌, ◌<◌, ◌≤◌, false, List, [], ◌++◌, length, Option, Some, None, Result, Ok, refl, sym, ap, ap₂, subst, arith, inl, inr}
use Rattle.std.proofs.lemmas.Bool.{ltb-false}
use Rattle.std.proofs.lemmas.List.{append-nil, length-take-le}
use Rattle.collation_matches.specs.declared.faults.TextFault.{TextFault}
use Rattle.collation_matches.specs.declared.select.Select.{Select}
use Rattle.collation_matches.specs.declared.select.Select.TheVariants.{All}
use Rattle.collation_matches.specs.Answer.{Answer, answer}
use Rattle.collation_matches.specs.GoodPrefix.{most_bytes, fault, good_prefix, prefix_at}
use Rattle.collation_matches.specs.Offsets.{answer_from}
use Rattle.collation_matches.specs.OffsetLaws.{ranges_from}
use Rattle.collation_matches.specs.Selecting.{selected}
use Rattle.collation_matches.specs.Sought.{Sought, answer_to}
use Rattle.collation_matches.proofs.BridgeLists.{Rising}
use Rattle.collation_matches.proofs.FewRanges.{From, answered-rise}
use Rattle.collation_matches.proofs.OffsetAnswers.{moved-zero}
use Rattle.collation_matches.proofs.OffsetBounds.{answer-fault-is, fault-within}
use Rattle.collation_matches.proofs.OffsetChains.{all-kept}
use Rattle.collation_matches.proofs.SearchLemmas.{TextLaw, WithinLaw, either}
use Rattle.collation_safe.specs.Laws.{IsGoodUpTo, AnswersFromSafeOffsets}
use Rattle.collation_safe.specs.Safe.{IsSafeOffset}
use Rattle.collation_anchored.specs.Answers.{unless_fault}
use Rattle.collation_backward.specs.Backward.{last_up_to, is_fault_before, said_up_to, IsToldFrom, IsToldBefore}
use Rattle.collation_backward.proofs.Ranges.{from-zero, up-to-from}

abbrev pub answer_of : List (ℕ × ℕ) → Option TextFault → Answer
answer_of ranges at = record { ranges = ranges; fault = at }

pub fault-is : (s : Sought) (p text : List ℕ) → (answer_to s p text).fault ≡ fault text
fault-is s p text = answer-fault-is s.table s.pattern.strength s.pattern.variable p text

-- without a fault before the offset the last range is said
pub no-fault-said : (at : ℕ) (a : Answer) → is_fault_before at a.fault ≡ false → said_up_to at a ≡ Ok (last_up_to at a.ranges)
no-fault-said at a clean = ap (λ b. unless_fault b a.fault (last_up_to at a.ranges)) clean

at-beginning : (s : Sought) (p text : List ℕ) → answer_from s p text 0 ≡ answer_to s p text
at-beginning s p text =
    let a = answer_to s p text in ap₂ answer_of (all-kept a.ranges ∙ from-zero a.ranges) (sym (moved-zero a.fault))

-- ---- at a safe offset

abbrev pub RestAnswers : Sought → List ℕ → List ℕ → ℕ → Type 0
RestAnswers s p text place =
    let all = answer_to s p text in answer_from s p text place ≡ answer_of (ranges_from place all.ranges) all.fault

pub rest-answers : AnswersFromSafeOffsets → (s : Sought) (p text : List ℕ) (place : ℕ) →
    s.select ≡ All → length text ≤ most_bytes → IsSafeOffset s.table text place → IsGoodUpTo text place → RestAnswers s p text place
rest-answers answers s p text place all few safe good =
    let longer : text ≡ text ++ [] = sym (append-nil text) in
    let same : 0 + place ≡ place = omega arith in
    let there = answers s p [] text [] place all
    (subst (λ (t : List ℕ). length t ≤ most_bytes) longer few) safe
    (subst (λ (t : List ℕ). IsGoodUpTo t (0 + place)) longer (subst (IsGoodUpTo text) (sym same) good)) in
    subst (RestAnswers s p text) same (subst (λ (t : List ℕ). RestAnswers s p t (0 + place)) (sym longer) there)

pub good-up-to : TextLaw → WithinLaw → (text : List ℕ) (at place : ℕ) → is_fault_before at (fault text) ≡ false → place < at → IsGoodUpTo text place
good-up-to text_law within_law text at place clean less = elim (either (fault text)) [
  | inl none ↦ inl none
  | inr some ↦
      let f = some.0 in
      let later = ltb-false f.offset at (sym (ap (is_fault_before at) some.1) ∙ clean) in
      let within = fault-within text_law within_law text f some.1 in
      let len : length (good_prefix text) ≡ f.offset = ap (λ o. length (prefix_at text o)) some.1 ∙ length-take-le f.offset text within in
      inr (omega (arith, less, later, len))
]

pub rises : (s : Sought) (p text : List ℕ) → s.select ≡ All → Rising From (answer_to s p text).ranges
rises s p text all =
    let ranges = (answer s.table s.pattern.strength s.pattern.variable p text).ranges in
    let P : Select → Type 0 = λ select. Rising From (selected select ranges) in
    subst P (sym all) (answered-rise s.table s.pattern.strength s.pattern.variable p text)

-- ---- what is told

-- from a place that is the beginning where nothing is told
pub told-from : (s : Sought) (p text : List ℕ) (first at : ℕ) (result : Result (Option (ℕ × ℕ)) TextFault) → IsToldFrom s p text first at result → (result ≡ Ok None → first ≡ 0) →
    IsToldBefore s p text at result
told-from s p text first at result t begins = record { place = t.place; begins = t.begins; says = t.says; none = λ e. t.none e ∙ begins e }

module _ (answers : AnswersFromSafeOffsets) (text_law : TextLaw) (within_law : WithinLaw) (s : Sought) (p text : List ℕ) (at : ℕ) (result : Result (Option (ℕ × ℕ)) TextFault)
    (all : s.select ≡ All) (few : length text ≤ most_bytes) (clean : is_fault_before at (fault text) ≡ false) (t : IsToldBefore s p text at result)
  where
    abbrev whole : Answer
    whole = answer_to s p text

    no_fault : is_fault_before at whole.fault ≡ false
    no_fault = ap (is_fault_before at) (fault-is s p text) ∙ clean

    from_beginning : t.place ≡ 0 → result ≡ Ok (last_up_to at whole.ranges)
    from_beginning here =
        t.says
        ∙ ap (λ n. said_up_to at (answer_from s p text n)) here
        ∙ ap (said_up_to at) (at-beginning s p text)
        ∙ no-fault-said at whole no_fault

    of_rest : result ≡ Ok (last_up_to at (ranges_from t.place whole.ranges)) → (found : Option (ℕ × ℕ)) → last_up_to at (ranges_from t.place whole.ranges) ≡ found →
        result ≡ Ok (last_up_to at whole.ranges)
    of_rest said None e = from_beginning (t.none (said ∙ ap (λ (o : Option (ℕ × ℕ)). let r : Result (Option (ℕ × ℕ)) TextFault = Ok o in r) e))
    of_rest said (Some range) e =
        said
        ∙ ap (λ (o : Option (ℕ × ℕ)). let r : Result (Option (ℕ × ℕ)) TextFault = Ok o in r)
        (e ∙ sym (up-to-from at t.place whole.ranges range (rises s p text all) e))

    pub told-good : result ≡ Ok (last_up_to at whole.ranges)
    told-good = elim t.begins [
      | inl here ↦ from_beginning here
      | inr safe ↦
          let rest = rest-answers answers s p text t.place all few safe.0 (good-up-to text_law within_law text at t.place clean safe.1) in
          of_rest (t.says ∙ ap (said_up_to at) rest ∙ no-fault-said at (answer_of (ranges_from t.place whole.ranges) whole.fault) no_fault)
          (last_up_to at (ranges_from t.place whole.ranges)) refl
    ]
