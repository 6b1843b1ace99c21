use Rattle.std.specs.Str.{chars}
use Rattle.std.proofs.Common.{◌∙◌, ℕ, Bool, ◌==◌, Result, Ok, sym, ap, refl}
use Rattle.collation_matches.specs.declared.faults.TextFault.{TextFault}
use Rattle.collation_matches.specs.GoodPrefix.{fault, good_prefix}
use Rattle.collation_matches.proofs.LagTexts.{TextLaws}
use Rattle.collation_anchored.specs.Anchored.{is_equal}
use Rattle.collation_anchored.specs.Answers.{begun_by}
use Rattle.collation_anchored.proofs.EqualAnswers.{apart_answers, fault_answers, whole_answers, equal_by_count, not_equal}
use Rattle.collation_anchored.proofs.GoodTexts.{good_is_text}
use Rattle.collation_anchored.proofs.anchored.Anchored.equals.Goals as goal

abbrev ok_of : Bool → Result Bool TextFault
ok_of answer = Ok answer

pub returns-in-Decided-clause-answer : goal.returns-in-Decided-clause-answer
returns-in-Decided-clause-answer g c = λ p compiled.
    let table = g.W.Weights.table c.args.self.now.table.now in
    let pattern = c.args.self.now.pattern.now in
    let text = c.args.text.now in
    let good = good_prefix text in
    let text_laws = c.whole_characters_are_the_longest_text.ensures in
    let laws : TextLaws = record { text = text_laws.text; longest = text_laws.longest; within = text_laws.within; faults = c.laws_of_faults.ensures.following } in
    let apart = c.in-Decided.ensures.apart refl refl in
    apart_answers (begun_by table pattern text) (fault text) (is_equal table pattern.strength pattern.variable p good) apart
    (not_equal table c.key_law.ensures.same pattern.strength pattern.variable p good pattern.keys compiled.text (good_is_text laws text) compiled.keys apart)

pub returns-then-not-begun-clause-answer : goal.returns-then-not-begun-clause-answer
returns-then-not-begun-clause-answer g c = λ p compiled.
    let table = g.W.Weights.table c.args.self.now.table.now in
    let pattern = c.args.self.now.pattern.now in
    let text = c.args.text.now in
    let good = good_prefix text in
    let text_laws = c.whole_characters_are_the_longest_text.ensures in
    let laws : TextLaws = record { text = text_laws.text; longest = text_laws.longest; within = text_laws.within; faults = c.laws_of_faults.ensures.following } in
    let stands = c.in-Ended.ensures.stands c.in-Ended.at refl in
    let apart = sym (c.end-begun.ensures.begun (chars good) stands) ∙ c.if-not-begun.true in
    apart_answers (begun_by table pattern text) (fault text) (is_equal table pattern.strength pattern.variable p good) apart
    (not_equal table c.key_law.ensures.same pattern.strength pattern.variable p good pattern.keys compiled.text (good_is_text laws text) compiled.keys apart)

pub returns-in-Some-clause-answer : goal.returns-in-Some-clause-answer
returns-in-Some-clause-answer g c = λ p compiled.
    let table = g.W.Weights.table c.args.self.now.table.now in
    let pattern = c.args.self.now.pattern.now in
    let text = c.args.text.now in
    let good = good_prefix text in
    let stands = c.in-Ended.ensures.stands c.in-Ended.at refl in
    let begun = sym (c.end-begun.ensures.begun (chars good) stands) ∙ c.if-not-begun.false in
    fault_answers (begun_by table pattern text) (fault text) c.in-Some.fault (is_equal table pattern.strength pattern.variable p good) begun (sym (c.in-Ended.ensures.fault c.in-Ended.at refl) ∙ c.in-Some.is)

pub returns-in-None-clause-answer : goal.returns-in-None-clause-answer
returns-in-None-clause-answer g c = λ p compiled.
    let table = g.W.Weights.table c.args.self.now.table.now in
    let pattern = c.args.self.now.pattern.now in
    let text = c.args.text.now in
    let good = good_prefix text in
    let matched = c.end-begun.new.self.progress.matched in
    let text_laws = c.whole_characters_are_the_longest_text.ensures in
    let laws : TextLaws = record { text = text_laws.text; longest = text_laws.longest; within = text_laws.within; faults = c.laws_of_faults.ensures.following } in
    let stands = c.in-Ended.ensures.stands c.in-Ended.at refl in
    let alike = c.if-not-begun.false in
    let same = equal_by_count table c.key_law.ensures.same pattern.strength pattern.variable p good pattern.keys matched compiled.text (good_is_text laws text) compiled.keys
    (c.end-begun.ensures.matched (chars good) stands alike) (c.end-begun.ensures.within (chars good) stands alike) in
    ap ok_of (ap (λ (n : ℕ). matched == n) c.len.ensures.keys ∙ same)
    ∙ whole_answers (begun_by table pattern text) (fault text) (is_equal table pattern.strength pattern.variable p good) (sym (c.in-Ended.ensures.fault c.in-Ended.at refl) ∙ c.in-None.is)
