use Rattle.std.specs.Str.{chars}
use Rattle.std.proofs.Common.{◌≡◌, ◌∙◌, ◌<◌, ℕ, [], length, true, false, Some, None, is_some, sym, ap, refl, arith}
use Rattle.collation_pattern.specs.Levels.{text_keys}
use Rattle.collation_matches.specs.ByClusters.{text_items}
use Rattle.collation_matches.specs.GoodPrefix.{fault, good_prefix, prefix_at}
use Rattle.collation_matches.proofs.LagTexts.{TextLaws}
use Rattle.collation_anchored.specs.Anchored.{begins}
use Rattle.collation_anchored.specs.Answers.{begun_by}
use Rattle.collation_anchored.specs.Compared.{completed_among}
use Rattle.collation_anchored.proofs.BeginsAnswers.{none_of, answer_completed, at_fault, without_fault, open_end, all_of, fewer_than}
use Rattle.collation_anchored.proofs.CompletedTexts.{BeginsBy, begins_by}
use Rattle.collation_anchored.proofs.GoodTexts.{good_is_text}
use Rattle.collation_anchored.proofs.anchored.Anchored.begins.Goals as goal
use Rattle.collation_anchored.proofs.anchored.Anchored.begins.Goals.{then-is_some-via-then-is_some, then-is_some-via-else-is_some+then-not-begun}

pub returns-in-Decided-clause-answer : goal.returns-in-Decided-clause-answer
returns-in-Decided-clause-answer g c = λ p compiled.
    let table = g.W.Weights.table c.args.self.now.table.now in
    let pattern = c.args.self.now.pattern.now in
    let text = c.args.text.now in
    let good = good_prefix text in
    let found = completed_among pattern.keys [] (text_items table pattern.strength pattern.variable good) in
    let keys = text_keys table pattern.strength pattern.variable good in
    let end = begins table pattern.strength pattern.variable p good in
    let text_laws = c.whole_characters_are_the_longest_text.ensures in
    let laws : TextLaws = record { text = text_laws.text; longest = text_laws.longest; within = text_laws.within; faults = c.laws_of_faults.ensures.following } in
    let parts = c.clusters_are_parts.ensures in
    let most = c.len-most.ensures in
    let some : 0 < length pattern.keys = omega (arith, most.keys, most.some) in
    let by : BeginsBy end found keys pattern.keys (length good) =
    begins_by parts.boundaries parts.keys parts.texts table c.key_law.ensures.same pattern.strength pattern.variable p good pattern.keys compiled.text (good_is_text laws text) compiled.keys some in
    answer_completed (begun_by table pattern text) (fault text) end found c.read.new.self.progress.completed keys pattern.keys (length good) by refl (c.in-Decided.ensures.completed refl)
    (c.in-Decided.ensures.none refl)

-- ---- at the end of what is good

pub returns-then-is_some-clause-answer : goal.returns-then-is_some-clause-answer
returns-then-is_some-clause-answer g c = λ p compiled.
    let table = g.W.Weights.table c.args.self.now.table.now in
    let pattern = c.args.self.now.pattern.now in
    let text = c.args.text.now in
    let good = good_prefix text in
    let found = completed_among pattern.keys [] (text_items table pattern.strength pattern.variable good) in
    let keys = text_keys table pattern.strength pattern.variable good in
    let end = begins table pattern.strength pattern.variable p good in
    let text_laws = c.whole_characters_are_the_longest_text.ensures in
    let laws : TextLaws = record { text = text_laws.text; longest = text_laws.longest; within = text_laws.within; faults = c.laws_of_faults.ensures.following } in
    let parts = c.clusters_are_parts.ensures in
    let most = c.len-most.ensures in
    let some : 0 < length pattern.keys = omega (arith, most.keys, most.some) in
    let by : BeginsBy end found keys pattern.keys (length good) =
    begins_by parts.boundaries parts.keys parts.texts table c.key_law.ensures.same pattern.strength pattern.variable p good pattern.keys compiled.text (good_is_text laws text) compiled.keys some in
    let stands = c.in-Ended.ensures.stands c.in-Ended.at refl in
    let ended = c.end-begun.ensures in
    let found_is : c.end-begun.new.self.progress.completed ≡ found = ended.completed (chars good) stands in
    let begun_is : c.end-begun.result ≡ begun_by table pattern text = ended.begun (chars good) stands in
    answer_completed (begun_by table pattern text) (fault text) end found c.end-begun.new.self.progress.completed keys pattern.keys (length good) by refl found_is
    (λ none. sym begun_is ∙ elim c.then-is_some.branch [
      | then-is_some-via-then-is_some w ↦ let both : false ≡ true = sym (ap is_some none) ∙ sym c.is_some.ensures ∙ w.if-is_some.true in cc
      | then-is_some-via-else-is_some+then-not-begun w ↦ w.if-not-begun.true
    ])

pub returns-in-Some-clause-answer : goal.returns-in-Some-clause-answer
returns-in-Some-clause-answer g c = λ p compiled.
    let table = g.W.Weights.table c.args.self.now.table.now in
    let pattern = c.args.self.now.pattern.now in
    let text = c.args.text.now in
    let good = good_prefix text in
    let found = completed_among pattern.keys [] (text_items table pattern.strength pattern.variable good) in
    let keys = text_keys table pattern.strength pattern.variable good in
    let end = begins table pattern.strength pattern.variable p good in
    let text_laws = c.whole_characters_are_the_longest_text.ensures in
    let laws : TextLaws = record { text = text_laws.text; longest = text_laws.longest; within = text_laws.within; faults = c.laws_of_faults.ensures.following } in
    let parts = c.clusters_are_parts.ensures in
    let most = c.len-most.ensures in
    let some : 0 < length pattern.keys = omega (arith, most.keys, most.some) in
    let by : BeginsBy end found keys pattern.keys (length good) =
    begins_by parts.boundaries parts.keys parts.texts table c.key_law.ensures.same pattern.strength pattern.variable p good pattern.keys compiled.text (good_is_text laws text) compiled.keys some in
    let stands = c.in-Ended.ensures.stands c.in-Ended.at refl in
    let ended = c.end-begun.ensures in
    let found_is : c.end-begun.new.self.progress.completed ≡ found = ended.completed (chars good) stands in
    let begun_is : c.end-begun.result ≡ begun_by table pattern text = ended.begun (chars good) stands in
    let none : found ≡ None = sym found_is ∙ none_of c.end-begun.new.self.progress.completed (sym c.is_some.ensures ∙ c.if-is_some.false) in
    at_fault (begun_by table pattern text) (fault text) c.in-Some.first (length good) end (sym begun_is ∙ c.if-not-begun.false) (sym (c.in-Ended.ensures.fault c.in-Ended.at refl) ∙ c.in-Some.is)
    (open_end end found keys pattern.keys (length good) by none)

pub returns-then-comparison-most-clause-answer : goal.returns-then-comparison-most-clause-answer
returns-then-comparison-most-clause-answer g c = λ p compiled.
    let table = g.W.Weights.table c.args.self.now.table.now in
    let pattern = c.args.self.now.pattern.now in
    let text = c.args.text.now in
    let good = good_prefix text in
    let found = completed_among pattern.keys [] (text_items table pattern.strength pattern.variable good) in
    let keys = text_keys table pattern.strength pattern.variable good in
    let end = begins table pattern.strength pattern.variable p good in
    let text_laws = c.whole_characters_are_the_longest_text.ensures in
    let laws : TextLaws = record { text = text_laws.text; longest = text_laws.longest; within = text_laws.within; faults = c.laws_of_faults.ensures.following } in
    let parts = c.clusters_are_parts.ensures in
    let most = c.len-most.ensures in
    let some : 0 < length pattern.keys = omega (arith, most.keys, most.some) in
    let by : BeginsBy end found keys pattern.keys (length good) =
    begins_by parts.boundaries parts.keys parts.texts table c.key_law.ensures.same pattern.strength pattern.variable p good pattern.keys compiled.text (good_is_text laws text) compiled.keys some in
    let stands = c.in-Ended.ensures.stands c.in-Ended.at refl in
    let ended = c.end-begun.ensures in
    let found_is : c.end-begun.new.self.progress.completed ≡ found = ended.completed (chars good) stands in
    let begun_is : c.end-begun.result ≡ begun_by table pattern text = ended.begun (chars good) stands in
    let none : found ≡ None = sym found_is ∙ none_of c.end-begun.new.self.progress.completed (sym c.is_some.ensures ∙ c.if-is_some.false) in
    let no_fault : fault text ≡ None = sym (c.in-Ended.ensures.fault c.in-Ended.at refl) ∙ c.in-None.is in
    let len : length good ≡ length text = ap length (ap (prefix_at text) no_fault) in
    let alike = c.if-not-begun.false in
    let matched = c.end-begun.new.self.progress.matched in
    let all : matched ≡ length pattern.keys = c.if-comparison-most.true ∙ most.keys in
    let same : keys ≡ pattern.keys = ended.matched (chars good) stands alike ∙ all_of pattern.keys matched all in
    without_fault (begun_by table pattern text) (fault text) (length good) end (Some (length text)) no_fault (by.whole none same ∙ ap (λ (n : ℕ). Some n) len)

pub returns-else-comparison-most-clause-answer : goal.returns-else-comparison-most-clause-answer
returns-else-comparison-most-clause-answer g c = λ p compiled.
    let table = g.W.Weights.table c.args.self.now.table.now in
    let pattern = c.args.self.now.pattern.now in
    let text = c.args.text.now in
    let good = good_prefix text in
    let found = completed_among pattern.keys [] (text_items table pattern.strength pattern.variable good) in
    let keys = text_keys table pattern.strength pattern.variable good in
    let end = begins table pattern.strength pattern.variable p good in
    let text_laws = c.whole_characters_are_the_longest_text.ensures in
    let laws : TextLaws = record { text = text_laws.text; longest = text_laws.longest; within = text_laws.within; faults = c.laws_of_faults.ensures.following } in
    let parts = c.clusters_are_parts.ensures in
    let most = c.len-most.ensures in
    let some : 0 < length pattern.keys = omega (arith, most.keys, most.some) in
    let by : BeginsBy end found keys pattern.keys (length good) =
    begins_by parts.boundaries parts.keys parts.texts table c.key_law.ensures.same pattern.strength pattern.variable p good pattern.keys compiled.text (good_is_text laws text) compiled.keys some in
    let stands = c.in-Ended.ensures.stands c.in-Ended.at refl in
    let ended = c.end-begun.ensures in
    let found_is : c.end-begun.new.self.progress.completed ≡ found = ended.completed (chars good) stands in
    let begun_is : c.end-begun.result ≡ begun_by table pattern text = ended.begun (chars good) stands in
    let none : found ≡ None = sym found_is ∙ none_of c.end-begun.new.self.progress.completed (sym c.is_some.ensures ∙ c.if-is_some.false) in
    let no_fault : fault text ≡ None = sym (c.in-Ended.ensures.fault c.in-Ended.at refl) ∙ c.in-None.is in
    let alike = c.if-not-begun.false in
    let matched = c.end-begun.new.self.progress.matched in
    let fewer : matched ≡ length pattern.keys → ⊥ = λ all. c.if-comparison-most.false (all ∙ sym most.keys) in
    let other : keys ≡ pattern.keys → ⊥ =
    λ same. fewer_than pattern.keys matched (ended.within (chars good) stands alike) fewer (sym (ended.matched (chars good) stands alike) ∙ same) in
    without_fault (begun_by table pattern text) (fault text) (length good) end None no_fault (by.never none other)
