use Rattle.std.proofs.Common.{◌≡◌, ◌∙◌, fold, sym, ap}
use Rattle.std.specs.List.{list_any}
use Rattle.collation_table.specs.Bounds.{higher_second, is_too_light}
use Rattle.collation_table.specs.Table.{TableMap}
use Rattle.collation_table.specs.WellFormed.{table_elements}
use Rattle.collation_table.proofs.ElementLemmas.{breaks_wf2-by_bounds}
use Rattle.collation_table.proofs.rows.Rows.breaks_wf2.Goals as goal

pub returns : goal.returns
returns g c =
    let second = c.greatest_second-second.result in
    let third = c.greatest_third-third.result in
    let all : table_elements c.args.self.now ≡ c.self.inside.elements.items = sym (ap (λ (T : TableMap). table_elements T) c.self.view_is) ∙ c.self.invariant.1.all in
    let whole : c.any_too_light.result ≡ list_any (is_too_light second third) (table_elements c.args.self.now) = c.any_too_light.ensures ∙ ap (list_any (is_too_light second third)) (c.as_slice.ensures.value ∙ sym all) in
    whole
    ∙ ap (λ n. list_any (is_too_light n third) (table_elements c.args.self.now)) c.greatest_second-second.ensures
    ∙ ap (λ n. list_any (is_too_light (fold higher_second 0x20 (table_elements c.args.self.now)) n) (table_elements c.args.self.now)) c.greatest_third-third.ensures
    ∙ sym (breaks_wf2-by_bounds c.args.self.now)
