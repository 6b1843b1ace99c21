use Rattle.std.specs.Str.{chars}
use Rattle.std.proofs.Common.{◌≡◌, ◌∙◌, ℕ, List, length, nat_lt, None, sym, ap, subst}
use Rattle.std.proofs.lemmas.Option.{none-some}
use Rattle.nfd_points.specs.PointFaults.{point_fault}
use Rattle.collation_pattern.specs.Levels.{text_keys}
use Rattle.collation_matches.proofs.LagTexts.{TextLaws}
use Rattle.collation_anchored.proofs.CountedTexts.{whole-itself, points-good, no-first_fault}
use Rattle.collation_anchored.proofs.anchored.Anchored.has_more_keys.Goals as goal

pub returns-in_default-None-clause-more : goal.returns-in_default-None-clause-more
returns-in_default-None-clause-more g c = λ good.
    let whole = c.whole_characters_are_the_longest_text.ensures in
    let laws : TextLaws = record { text = whole.text; longest = whole.longest; within = whole.within; faults = c.laws_of_faults.ensures.following } in
    let table = g.W.Weights.table c.args.self.now.table.now in
    let pattern = c.args.self.now.pattern.now in
    let text = c.args.text.now in
    let same : c.front.result.0.now ≡ text = c.front.ensures.text ∙ whole-itself laws text good in
    c.has_more_keys.ensures.more (subst (λ (t : List ℕ). point_fault (chars t) ≡ None) (sym same) (points-good laws text good))
    ∙ ap (λ (t : List ℕ). nat_lt (length pattern.keys) (length (text_keys table pattern.strength pattern.variable t))) same

pub returns-in_default-Some-clause-more : goal.returns-in_default-Some-clause-more
returns-in_default-Some-clause-more g c = λ good.
    let whole = c.whole_characters_are_the_longest_text.ensures in
    let laws : TextLaws = record { text = whole.text; longest = whole.longest; within = whole.within; faults = c.laws_of_faults.ensures.following } in
    absurd (none-some _ (sym (no-first_fault laws c.args.text.now good) ∙ sym c.front.ensures.fault ∙ c.in_default-Some.is-1))
