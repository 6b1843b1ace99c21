use Rattle.std.proofs.Common.{◌≡◌, ◌⊎◌, ◌∙◌, ◌<◌, ◌≤◌, ℕ, true, false, not, List, length, drop, Option, Some, None, Result, Ok, Err, refl, sym, ap, subst, arith, inl, inr}
use Rattle.std.proofs.lemmas.Bool.{cases_Bool}
use Rattle.collation_pattern.specs.KeyLaw.{KeyLaw}
use Rattle.collation_matches.specs.declared.faults.TextFault.{TextFault}
use Rattle.collation_matches.specs.GoodPrefix.{most_bytes}
use Rattle.collation_matches.specs.Offsets.{answer_from}
use Rattle.collation_matches.specs.Sought.{Sought, IsCompiledFrom}
use Rattle.collation_safe.specs.Found.{IsFoundUpTo}
use Rattle.collation_safe.specs.Safe.{IsSafeOffset}
use Rattle.collation_anchored.specs.Answers.{has_more_keys, unless_fault}
use Rattle.collation_anchored.specs.Laws.{EndsByLastRange}
use Rattle.collation_backward.specs.Backward.{said_up_to, start_told, IsFaultFrom, IsToldOfEnd}
use Rattle.collation_backward.specs.Ending.{ends_answer}
use Rattle.collation_backward.specs.Going.{sought_by}
use Rattle.collation_backward.proofs.EndsAnswer.{EndLaws, alone-inside, told-there, range-ends, none-ends-here, fault-from, fault-answers, last-answers}
use Rattle.collation_backward.proofs.StartTold.{rest-is-good, rest-said}
use Rattle.collation_backward.proofs.backward.Backward.start_behind.Given as given
use Rattle.collation_backward.proofs.backward.Backward.start_behind.Goals.{After-place_behind, After-said_from}
use Rattle.collation_backward.proofs.backward.Backward.start_behind.Goals as goal

laws : (g : given.Over) (c : After-place_behind g) → EndLaws (sought_by c.args.self.now)
laws g c =
    let whole = c.whole_characters_are_the_longest_text.ensures in
    let faults = c.laws_of_faults.ensures in
    let rests = c.matches_from_a_boundary.ensures in
    let same = sym c.args.self.now.table_same in
    record {
      starters = record {
        texts = record { text = whole.text; longest = whole.longest; within = whole.within; faults = faults.following };
        anew = faults.anew;
        few = faults.few;
        short = c.laws_of_decompositions.ensures.short;
      };
      rests = rests.answers;
      ranges = rests.ranges;
      answers = c.answers_from_safe_offsets.ensures;
      safe = c.safe_offsets_are_boundaries.ensures.boundaries;
      join = c.parts_join.ensures.keys;
      law = subst KeyLaw same c.key_law.ensures.same;
      last_law = subst EndsByLastRange same c.ends_by_last_range.ensures;
      all = c.args.self.now.all;
    }

abbrev ok_of : Option (ℕ × ℕ) → Result (Option (ℕ × ℕ)) TextFault
ok_of range = Ok range

table-is : (g : given.Over) (c : After-place_behind g) → (sought_by c.args.self.now).table ≡ g.W.Weights.table c.loop-next.self.table.now
table-is g c = ap (λ (t : Sought). t.table) (sym c.loop-next.invariant.same) ∙ c.loop-next.self.table_same

alone-is : (g : given.Over) (c : After-said_from g) → IsSafeOffset (sought_by c.args.self.now).table c.args.text.now c.in-Some.next
alone-is g c =
    let table = ap (λ (t : Sought). t.table) (sym c.loop-next.invariant.same) ∙ c.loop-next.self.table_same in
    subst (λ t. IsSafeOffset t c.args.text.now c.in-Some.next) (sym table) c.in-Some.ensures.safe

said-is : (g : given.Over) (c : After-said_from g) (p : List ℕ) → IsCompiledFrom (sought_by c.args.self.now) p →
    c.said_from.result ≡ said_up_to (length c.args.text.now) (answer_from (sought_by c.args.self.now) p c.args.text.now c.in-Some.next)
said-is g c p compiled =
    let same = c.loop-next.invariant.same in
    subst (λ (t : Sought). c.said_from.result ≡ said_up_to (length c.args.text.now) (answer_from t p c.args.text.now c.in-Some.next)) same
    (c.said_from.ensures.said p (subst (λ (t : Sought). IsCompiledFrom t p) (sym same) compiled))

pub loop-next-preserved : goal.loop-next-preserved
loop-next-preserved g c =
    let text = c.args.text.now in
    let s = sought_by c.args.self.now in
    let at = (goal.at.loop-next-preserved g c).After-said_from in
    record {
      from = λ p compiled from. fault-from s p text c.in-Some.next c.in-Err.later (inr (alone-is g at)) (sym c.in-Err.is ∙ said-is g at p compiled);
      before = c.in-Err.ensures.behind.1;
      same = c.said_from.ensures.sought ∙ c.loop-next.invariant.same;
    }

pub returns-in-Ok-Some-clause-answer : goal.returns-in-Ok-Some-clause-answer
returns-in-Ok-Some-clause-answer g c = λ p compiled few from.
    let s = sought_by c.args.self.now in
    let text = c.args.text.now in
    let at = goal.at.returns-in-Ok-Some-clause-answer g c in
    let all = laws g at.After-place_behind in
    let end = c.in-Ok-Some.field-0-0-1 in
    let range : ℕ × ℕ = (c.in-Ok-Some.start, end) in
    let said = c.said_from.result in
    let is : said ≡ Ok (Some range) = c.in-Ok-Some.is ∙ ap ok_of c.in-Ok-Some.field-0-is in
    let told : IsToldOfEnd s p text said = told-there s p text c.in-Some.next said (alone-is g at.After-said_from) c.in-Some.ensures.behind.1 (said-is g at.After-said_from p compiled)
    (λ e. let both = sym e ∙ is in cc) in
    let good = rest-is-good all.starters.texts all.rests all.ranges s all.all p text range said is told in
    let same = c.said_from.ensures.sought ∙ c.loop-next.invariant.same in
    subst (λ (t : Sought). c.start_of_equal.result ≡ start_told t p text (Ok (Some range))) same
    (c.start_of_equal.ensures.start p end (subst (λ (t : Sought). IsCompiledFrom t p) (sym same) compiled) good)
    ∙ range-ends s all p text few compiled said told range is

pub returns-in-Ok-None-clause-answer : goal.returns-in-Ok-None-clause-answer
returns-in-Ok-None-clause-answer g c = λ p compiled few from.
    let s = sought_by c.args.self.now in
    let text = c.args.text.now in
    let at = goal.at.returns-in-Ok-None-clause-answer g c in
    let all = laws g at.After-place_behind in
    let next = c.in-Some.next in
    let fault = c.loop-next.fault in
    let said = c.said_from.result in
    let is : said ≡ Ok None = c.in-Ok-None.is ∙ ap ok_of c.in-Ok-None.field-0-is in
    let alone = alone-is g at.After-said_from in
    let within = c.in-Some.ensures.behind.1 in
    let says : Ok None ≡ said_up_to (length text) (answer_from s p text next) = sym is ∙ said-is g at.After-said_from p compiled in
    let clean = (rest-said all.starters.texts s p text next None (omega (arith, within)) says).0 in
    let same = c.said_from.ensures.sought ∙ c.loop-next.invariant.same in
    let table = table-is g at.After-place_behind in
    let answered : c.none_from.result ≡ unless_fault (not (has_more_keys s.table s.pattern (drop next text))) (Some fault) None =
    subst (λ (t : Sought). c.none_from.result ≡ unless_fault (not (has_more_keys t.table t.pattern (drop next text))) (Some fault) None) same (c.none_from.ensures.told clean) in
    elim (cases_Bool (has_more_keys s.table s.pattern (drop next text))) [
      | inl many ↦
          answered
          ∙ ap (λ b. unless_fault (not b) (Some fault) None) many
          ∙ none-ends-here s all p text few compiled (Ok None) (told-there s p text next (Ok None) alone within says (λ e. inr many)) refl
      | inr no_more ↦
          answered
          ∙ ap (λ b. unless_fault (not b) (Some fault) None) no_more
          ∙ fault-answers s all p text few compiled fault next (c.loop-next.invariant.from p compiled from) alone c.in-Some.ensures.behind.0
          (λ place other later.
          let there = alone-inside s.table text place other in
          subst (IsFoundUpTo place) c.in-Some.is (c.place_behind.ensures.nearest place (subst (λ t. IsSafeOffset t text place) table other) later there))
          says no_more
    ]

pub returns-clause-answer : goal.returns-clause-answer
returns-clause-answer g c = λ p compiled few from.
    let s = sought_by c.args.self.now in
    let text = c.args.text.now in
    let at = (goal.at.returns-clause-answer g c).After-place_behind in
    let table = table-is g at in
    last-answers s (laws g at) p text few compiled c.loop-next.fault (c.loop-next.invariant.from p compiled from)
    (λ place other later.
    let nearest = c.place_behind.ensures.nearest place (subst (λ t. IsSafeOffset t text place) table other) later (alone-inside s.table text place other) in
    elim (either-place c.place_behind.result) [
      | inl none ↦ subst (IsFoundUpTo place) none nearest
      | inr some ↦ absurd (c.in_default.not-Some some.0 some.1)
    ])
  where
    either-place : (o : Option ℕ) → (o ≡ None) ⊎ ((place : ℕ) × (o ≡ Some place))
    either-place None = inl refl
    either-place (Some place) = inr (place, refl)
