use Rattle.std.proofs.Common.{◌≡◌, ◌∙◌, sym, ap}
use Rattle.std.specs.List.{list_any}
use Rattle.collation_table.specs.Bounds.{is_within_span}
use Rattle.collation_table.specs.Table.{TableMap}
use Rattle.collation_table.specs.WellFormed.{table_elements}
use Rattle.collation_table.proofs.ElementLemmas.{breaks_wf4-by_span, breaks_wf4-no_variable}
use Rattle.collation_table.proofs.rows.Rows.breaks_wf4.Goals as goal

pub returns-in-Some : goal.returns-in-Some
returns-in-Some g c =
    let all : table_elements c.args.self.now ≡ c.self.inside.elements.items = sym (ap (λ (T : TableMap). table_elements T) c.self.view_is) ∙ c.self.invariant.1.all in
    c.any_within_span.ensures ∙ ap (list_any (is_within_span c.in-Some.least c.in-Some.greatest)) (c.as_slice.ensures.value ∙ sym all)
    ∙ sym (breaks_wf4-by_span c.args.self.now c.in-Some.least c.in-Some.greatest (sym c.in-Some.ensures))

pub returns-in-None : goal.returns-in-None
returns-in-None g c = sym (breaks_wf4-no_variable c.args.self.now (sym c.in-None.ensures))
