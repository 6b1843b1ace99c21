use Rattle.std.specs.Option.{option_to_list}
use Rattle.std.proofs.Common.{◌≡◌, ◌∙◌, ap, ap₂}
use Rattle.collation_elements.specs.declared.settings.Strength.{Strength}
use Rattle.collation_elements.specs.declared.settings.Variable.{Variable}
use Rattle.collation_elements.specs.Weighing.{weigher}
use Rattle.collation_letters.specs.Letters.{flag_after}
use Rattle.collation_walk.proofs.LetterApart.{walked-on}
use Rattle.collation_walk.proofs.letters.walk_any.Goals as goal

pub returns-clause-walked : goal.returns-clause-walked
returns-clause-walked g c =
    let table = g.W.Weights.table c.args.query.now.table.now in
    let pattern = c.args.query.now.pattern.now in
    let after = c.flag_after-after.result in
    let made : c.restore-matcher.result ≡ weigher pattern.strength pattern.variable (flag_after c.args.letter.now.role c.args.matcher.now.weigher.after_variable) =
    c.restore-matcher.ensures.value ∙ ap₂ (λ (s : Strength) (v : Variable). weigher s v after) c.strength.ensures c.variable.ensures
    ∙ ap (weigher pattern.strength pattern.variable) (c.flag_after-after.ensures ∙ ap (flag_after c.args.letter.now.role) c.after_variable.ensures) in
    let range = option_to_list c.take_letter-range.result in (
      range,
      c.call.ensures.called,
      λ cs h. walked-on c.weighers_go_on.ensures c.laws_of_points.ensures.shifted table pattern c.args.matcher.now (record { weigher = c.restore-matcher.result; walk = c.take_letter-range.new.self }) c.args.start cs c.args.letter.now range
          c.requires.known.0 c.requires.known.1 h made c.take_letter-range.ensures.walks,
    )
