use Rattle.std.specs.Option.{option_to_list}
use Rattle.std.proofs.Common.{◌≡◌, ◌∙◌, false, ◌++◌, sym, ap, ap₂, subst}
use Rattle.collation_elements.specs.declared.settings.Strength.{Strength}
use Rattle.collation_elements.specs.declared.settings.Variable.{Variable}
use Rattle.collation_elements.specs.Weighing.{weigher}
use Rattle.collation_letters.specs.Letters.{is_mark, flag_after}
use Rattle.collation_letters.specs.Symbols.{AreLastSymbols}
use Rattle.collation_walk.specs.Walks.{WalksOver, letter_items}
use Rattle.collation_walk.proofs.LetterApart.{plain-known, walked-on}
use Rattle.collation_walk.proofs.LetterSteps.{plain-listed}
use Rattle.collation_walk.proofs.letters.walk_plain.Goals as goal

pub returns-clause-walked : goal.returns-clause-walked
returns-clause-walked g c =
    let table = g.W.Weights.table c.args.query.now.table.now in
    let pattern = c.args.query.now.pattern.now in
    let letter = c.args.letter.now in
    let plain = c.requires.plain in
    let before = c.args.matcher.now.weigher in
    let walk = c.take_plain-range.new.self in
    let made : c.restore-matcher.result ≡ weigher pattern.strength pattern.variable (flag_after letter.role before.after_variable) =
    c.restore-matcher.ensures.value ∙ ap₂ (λ (s : Strength) (v : Variable). weigher s v false) c.strength.ensures c.variable.ensures
    ∙ sym (ap (λ r. weigher pattern.strength pattern.variable (flag_after r before.after_variable)) plain) in
    let range = option_to_list c.take_plain-range.result in (
      range,
      c.call.ensures.called,
      λ cs h.
          let said = h.plain plain in
          walked-on c.weighers_go_on.ensures c.laws_of_points.ensures.shifted table pattern c.args.matcher.now (record { weigher = c.restore-matcher.result; walk = walk }) c.args.start cs letter range
          (plain-known letter.role plain) (ap is_mark plain) h made
          (λ keys k items ranges on.
          subst (λ r. WalksOver pattern.keys (items ++ letter_items r c.args.start keys) (ranges ++ range) walk) (sym plain)
          (c.take_plain-range.ensures.walks keys (subst (λ l. AreLastSymbols pattern.keys keys l) (plain-listed c.laws_of_symbols.ensures.listed letter.symbols said.1.0 said.1.1) k) items ranges on)),
    )
