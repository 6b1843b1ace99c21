use Rattle.std.proofs.Common.{◌≡◌, ◌≤◌, List, [], ◌∷◌, length, Option, None, Some, option_copied, unwrap_or, refl, ap, sym, ◌∙◌, arith}
use Rattle.std.proofs.lemmas.Option.{none-some}
use Rattle.collation_table.specs.declared.elements.Element.{Element}
use Rattle.collation_table.specs.declared.limits.TheConstants.{MOST_ROW_ELEMENTS}
use Rattle.collation_elements.proofs.RowSizes.{row_of-few}
use Rattle.collation_elements.proofs.unit.Unit.of_one.Goals.{in-Some, in-None}
use Rattle.collation_elements.proofs.unit.Unit.of_one.Goals as goal

few_held : (row : Option (List Element)) (pair : List Element) → ((es : List Element) → row ≡ Some es → length es ≤ MOST_ROW_ELEMENTS) → (row ≡ None → length pair ≤ MOST_ROW_ELEMENTS) → length (unwrap_or row pair) ≤ MOST_ROW_ELEMENTS
few_held None pair some none = none refl
few_held (Some es) pair some none = some es refl

pub invariant_of-result : goal.invariant_of-result
invariant_of-result g c =
    let T = g.W.Weights.table c.args.table.now in
    few_held (option_copied c.args.row) c.match-row.pair
    (λ es is. row_of-few T (c.args.point.cp ∷ []) es (g.met.W.Weights.sizes c.args.table.now) (sym c.requires.row ∙ is))
    (λ none.
    elim c.match-row.branch [
      | in-Some w ↦ absurd (none-some _ (sym none ∙ ap option_copied w.in-Some.is))
      | in-None w ↦ omega (arith, ap length w.pair-is, ap length w.implicit-pair.ensures)
    ])
