use Rattle.collation_table.proofs.WorkedTables.{implicit_weights-hold}
use Rattle.collation_table.proofs.worked.implicit_weights.Goals as goal

pub returns : goal.returns
returns c = implicit_weights-hold
