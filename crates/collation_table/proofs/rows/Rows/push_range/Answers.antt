use Rattle.collation_table.proofs.RowLemmas.{AreRangesSound-push}
use Rattle.collation_table.proofs.rows.Rows.push_range.Goals as goal

pub invariant_of-self-2 : goal.invariant_of-self-2
invariant_of-self-2 g c =
    rw c.in_ok-push.ensures.items (record { rows = c.self.invariant.0.rows; distinct = c.self.invariant.0.distinct; ranges = AreRangesSound-push _ _ c.self.invariant.0.ranges (rw (← c.self.view_is) at c.requires) }, c.self.invariant.1, c.self.invariant.2, c.self.invariant.3)
