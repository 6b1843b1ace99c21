use Rattle.std.proofs.Common.{◌≡◌, ◌∙◌, ◌≤◌, ℕ, List, length, Option, Some, None, Result, Ok, Err, sym, ap, subst}
use Rattle.collation_pattern.specs.KeyLaw.{KeyLaw}
use Rattle.collation_matches.specs.declared.faults.TextFault.{TextFault}
use Rattle.collation_matches.specs.GoodPrefix.{most_bytes, fault}
use Rattle.collation_matches.specs.Sought.{Sought, IsCompiledFrom}
use Rattle.collation_anchored.specs.Anchored.{ends}
use Rattle.collation_anchored.specs.Laws.{EndsByLastRange}
use Rattle.collation_anchored.proofs.CountedTexts.{few-bytes}
use Rattle.collation_backward.specs.Backward.{start_told, IsFaultFrom}
use Rattle.collation_backward.specs.Ending.{ends_answer}
use Rattle.collation_backward.specs.Going.{sought_by}
use Rattle.collation_backward.proofs.StartTold.{rest-is-good}
use Rattle.collation_backward.proofs.EndsAnswer.{EndLaws, good-answers, range-ends, none-ends-here, fault-begins}
use Rattle.collation_backward.proofs.backward.Backward.ends.Given as given
use Rattle.collation_backward.proofs.backward.Backward.ends.Goals.{After-said_of_end}
use Rattle.collation_backward.proofs.backward.Backward.ends.Goals as goal

abbrev ok_of : Option (ℕ × ℕ) → Result (Option (ℕ × ℕ)) TextFault
ok_of range = Ok range

laws : (g : given.Over) (c : After-said_of_end g) → EndLaws (sought_by c.args.self.now)
laws g c =
    let whole = c.whole_characters_are_the_longest_text.ensures in
    let faults = c.laws_of_faults.ensures in
    let rests = c.matches_from_a_boundary.ensures in
    let same = sym c.args.self.now.table_same in
    record {
      starters = record {
        texts = record { text = whole.text; longest = whole.longest; within = whole.within; faults = faults.following };
        anew = faults.anew;
        few = faults.few;
        short = c.laws_of_decompositions.ensures.short;
      };
      rests = rests.answers;
      ranges = rests.ranges;
      answers = c.answers_from_safe_offsets.ensures;
      safe = c.safe_offsets_are_boundaries.ensures.boundaries;
      join = c.parts_join.ensures.keys;
      law = subst KeyLaw same c.key_law.ensures.same;
      last_law = subst EndsByLastRange same c.ends_by_last_range.ensures;
      all = c.args.self.now.all;
    }

-- of a text without a fault the match is told
good-is : (g : given.Over) (c : After-said_of_end g) (p : List ℕ) (told : Result (Option ℕ) TextFault) → IsCompiledFrom (sought_by c.args.self.now) p → fault c.args.text.now ≡ None →
    (length c.args.text.now ≤ most_bytes → told ≡ ends_answer (sought_by c.args.self.now).table (sought_by c.args.self.now).pattern p c.args.text.now) →
    told ≡ Ok (ends (sought_by c.args.self.now).table (sought_by c.args.self.now).pattern.strength (sought_by c.args.self.now).pattern.variable p c.args.text.now)
good-is g c p told compiled none answer =
    let few = few-bytes c.args.text.now none in
    answer few ∙ good-answers (sought_by c.args.self.now) (laws g c) p c.args.text.now few compiled none

-- ---- a range is said, and the rest from there on has no fault

range-is : (g : given.Over) (c : goal.After-start_of_equal g) → EndLaws (sought_by c.args.self.now) → (p : List ℕ) → IsCompiledFrom (sought_by c.args.self.now) p → length c.args.text.now ≤ most_bytes →
    c.start_of_equal.result ≡ ends_answer (sought_by c.args.self.now).table (sought_by c.args.self.now).pattern p c.args.text.now
range-is g c all p compiled few =
    let s = sought_by c.args.self.now in
    let text = c.args.text.now in
    let end = c.in-Ok-Some.field-0-0-1 in
    let range : ℕ × ℕ = (c.in-Ok-Some.start, end) in
    let said = c.said_of_end.result in
    let is : said ≡ Ok (Some range) = c.in-Ok-Some.is ∙ ap ok_of c.in-Ok-Some.field-0-is in
    let told = c.said_of_end.ensures.told p compiled in
    let good = rest-is-good all.starters.texts all.rests all.ranges s all.all p text range said is told in
    let same = c.said_of_end.ensures.sought in
    subst (λ (t : Sought). c.start_of_equal.result ≡ start_told t p text (Ok (Some range))) same
    (c.start_of_equal.ensures.start p end (subst (λ (t : Sought). IsCompiledFrom t p) (sym same) compiled) good)
    ∙ range-ends s all p text few compiled said told range is

pub returns-in-Ok-Some-clause-answer : goal.returns-in-Ok-Some-clause-answer
returns-in-Ok-Some-clause-answer g c = range-is g c (laws g (goal.at.returns-in-Ok-Some-clause-answer g c).After-said_of_end)

pub returns-in-Ok-Some-clause-good : goal.returns-in-Ok-Some-clause-good
returns-in-Ok-Some-clause-good g c = λ p compiled none. good-is g (goal.at.returns-in-Ok-Some-clause-good g c).After-said_of_end p c.start_of_equal.result compiled none (range-is g c (laws g (goal.at.returns-in-Ok-Some-clause-good g c).After-said_of_end) p compiled)

-- ---- nothing is said

none-is : (g : given.Over) (c : After-said_of_end g) (p : List ℕ) → c.said_of_end.result ≡ Ok None → IsCompiledFrom (sought_by c.args.self.now) p → length c.args.text.now ≤ most_bytes →
    Ok None ≡ ends_answer (sought_by c.args.self.now).table (sought_by c.args.self.now).pattern p c.args.text.now
none-is g c p is compiled few = none-ends-here (sought_by c.args.self.now) (laws g c) p c.args.text.now few compiled c.said_of_end.result (c.said_of_end.ensures.told p compiled) is

pub returns-in-Ok-None-clause-answer : goal.returns-in-Ok-None-clause-answer
returns-in-Ok-None-clause-answer g c = λ p. none-is g (goal.at.returns-in-Ok-None-clause-answer g c).After-said_of_end p (c.in-Ok-None.is ∙ ap ok_of c.in-Ok-None.field-0-is)

pub returns-in-Ok-None-clause-good : goal.returns-in-Ok-None-clause-good
returns-in-Ok-None-clause-good g c = λ p compiled none.
    good-is g (goal.at.returns-in-Ok-None-clause-good g c).After-said_of_end p (Ok None) compiled none (none-is g (goal.at.returns-in-Ok-None-clause-good g c).After-said_of_end p (c.in-Ok-None.is ∙ ap ok_of c.in-Ok-None.field-0-is) compiled)

-- ---- a fault is said

fault-is : (g : given.Over) (c : goal.After-start_behind g) → EndLaws (sought_by c.args.self.now) → (p : List ℕ) → IsCompiledFrom (sought_by c.args.self.now) p → length c.args.text.now ≤ most_bytes →
    c.start_behind.result ≡ ends_answer (sought_by c.args.self.now).table (sought_by c.args.self.now).pattern p c.args.text.now
fault-is g c all p compiled few =
    let s = sought_by c.args.self.now in
    let text = c.args.text.now in
    let same = c.said_of_end.ensures.sought in
    let begins = fault-begins s all p text few compiled c.said_of_end.result (c.said_of_end.ensures.told p compiled) c.in-Err.fault c.in-Err.is in
    subst (λ (t : Sought). c.start_behind.result ≡ ends_answer t.table t.pattern p text) same
    (c.start_behind.ensures.answer p (subst (λ (t : Sought). IsCompiledFrom t p) (sym same) compiled) few
    (subst (λ (t : Sought). IsFaultFrom t.table text c.in-Err.fault) (sym same) begins))

pub returns-in-Err-clause-answer : goal.returns-in-Err-clause-answer
returns-in-Err-clause-answer g c = fault-is g c (laws g (goal.at.returns-in-Err-clause-answer g c).After-said_of_end)

pub returns-in-Err-clause-good : goal.returns-in-Err-clause-good
returns-in-Err-clause-good g c = λ p compiled none. good-is g (goal.at.returns-in-Err-clause-good g c).After-said_of_end p c.start_behind.result compiled none (fault-is g c (laws g (goal.at.returns-in-Err-clause-good g c).After-said_of_end) p compiled)
