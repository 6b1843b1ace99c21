use Rattle.std.proofs.Common.{◌≡◌, ◌∙◌, ◌<◌, sym, ap, subst, length, get_or, false, List}
use Rattle.collation_table.specs.declared.rows.RowPlaces.{RowPlaces}
use Rattle.collation_table.specs.Entries.{part}
use Rattle.collation_table.specs.WellFormed.{lacks_prefix}
use Rattle.collation_table.proofs.IndexLemmas.{any-rest}
use Rattle.collation_table.proofs.rows.Rows.breaks_wf5.Goals as goal

pub loop-places-preserved : goal.loop-places-preserved
loop-places-preserved g c =
    let i = c.loop-places.places-index in
    let T = c.args.self.now in
    let none : RowPlaces = record { string = record { start = 0; end = 0 }; row = record { start = 0; end = 0 } } in
    let points = c.self.inside.points.items in
    let places = c.self.inside.places.items in
    let off : lacks_prefix T (part points (get_or places i none).string) ≡ false =
    ap (λ l. lacks_prefix T (part points (get_or l i none).string)) (sym c.deref-places-items.ensures.value) ∙ ap (λ l. lacks_prefix T (part l (get_or c.deref-places-items.result.now i none).string)) (sym c.as_slice.ensures.value)
    ∙ ap (lacks_prefix T) (sym c.points_at.ensures) ∙ sym c.lacks_prefix.ensures ∙ c.if-lacks_prefix.false in
    any-rest (lacks_prefix T) points c.self.inside.elements.items places i none _ (subst (λ (l : List RowPlaces). i < length l) c.deref-places-items.ensures.value c.loop-places-test.true) off c.loop-places.invariant
