use Rattle.collation_table.proofs.IndexLemmas.{found_string}
use Rattle.collation_table.proofs.rows.Rows.index.Goals as goal

pub returns-clause-places : goal.returns-clause-places
returns-clause-places g c = λ string. rw (← c.self.view_is) (found_string _ _ _ _ _ _ c.self.invariant.1 string)
