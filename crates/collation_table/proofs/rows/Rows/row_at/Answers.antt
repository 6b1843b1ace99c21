use Rattle.std.proofs.Common.{◌≡◌, ◌∙◌, ℕ, List, slice_get, Some, sym, ap}
use Rattle.collation_table.specs.declared.elements.Element.{Element}
use Rattle.collation_table.specs.Entries.{part, rows_at}
use Rattle.collation_table.specs.WellFormed.{IsRowSound}
use Rattle.collation_table.proofs.IndexLemmas.{rows_at-place}
use Rattle.collation_table.proofs.RowLemmas.{AllByRecursion-at}
use Rattle.collation_table.proofs.rows.Rows.row_at.Goals as goal

pub returns-clause-sound : goal.returns-clause-sound
returns-clause-sound g c =
    let a = c.self.inside in
    let r = c.index-places.result.now in
    let row : List ℕ × List Element = (c.points_at.result.now, c.elements_at.result.now) in
    let lt = rw (← c.self.view_is) at c.requires in
    let string : c.points_at.result.now ≡ part a.points.items r.string = c.points_at.ensures ∙ ap (λ l. part l r.string) c.as_slice.ensures.value in
    let elements : c.elements_at.result.now ≡ part a.elements.items r.row = c.elements_at.ensures ∙ ap (λ l. part l r.row) c.as_slice-2.ensures.value in
    let at : slice_get (rows_at a.points.items a.elements.items a.places.items) c.args.number ≡ Some row =
    rows_at-place a.points.items a.elements.items a.places.items c.args.number r lt c.index-places.ensures ∙ (λ i. Some (sym string i, sym elements i)) in
    AllByRecursion-at (λ row. IsRowSound row.0 row.1) _ c.args.number row c.self.invariant.0.rows at

pub returns-clause-distinct : goal.returns-clause-distinct
returns-clause-distinct g c =
    let a = c.self.inside in
    let r = c.index-places.result.now in
    let row : List ℕ × List Element = (c.points_at.result.now, c.elements_at.result.now) in
    let lt = rw (← c.self.view_is) at c.requires in
    let string : c.points_at.result.now ≡ part a.points.items r.string = c.points_at.ensures ∙ ap (λ l. part l r.string) c.as_slice.ensures.value in
    let elements : c.elements_at.result.now ≡ part a.elements.items r.row = c.elements_at.ensures ∙ ap (λ l. part l r.row) c.as_slice-2.ensures.value in
    let at : slice_get (rows_at a.points.items a.elements.items a.places.items) c.args.number ≡ Some row =
    rows_at-place a.points.items a.elements.items a.places.items c.args.number r lt c.index-places.ensures ∙ (λ i. Some (sym string i, sym elements i)) in
    rw (← c.self.view_is) (c.self.invariant.0.distinct c.args.number row at)
