use Rattle.collation_table.proofs.IndexLemmas.{IsIndexed-none}
use Rattle.collation_table.proofs.rows.Rows.new.Goals as goal

pub invariant_of-result : goal.invariant_of-result
invariant_of-result g c =
    rw (c.new.ensures.items, c.new-2.ensures.items, c.new-3.ensures.items, c.new-6.ensures.items) (record { rows = tt; distinct = λ k r at. cc; ranges = λ k r at. cc }, IsIndexed-none (g.I.RowIndex.finds c.new-4.result) c.new-4.ensures.empty, c.new-4.ensures.whole, c.new-5.ensures)
