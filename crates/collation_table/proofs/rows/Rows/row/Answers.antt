use Rattle.std.proofs.Common.{◌∙◌, sym}
use Rattle.collation_table.proofs.rows.Rows.row.Goals as goal

pub elements_at-requires-clause-start : goal.elements_at-requires-clause-start
elements_at-requires-clause-start g c = (c.self.invariant.1.lent c.args.string.now c.in-Some.place (sym c.place.ensures ∙ c.in-Some.is)).0

pub elements_at-requires-clause-end : goal.elements_at-requires-clause-end
elements_at-requires-clause-end g c = rw c.as_slice.ensures.value ((c.self.invariant.1.lent c.args.string.now c.in-Some.place (sym c.place.ensures ∙ c.in-Some.is)).1)
