use Rattle.collation_table.proofs.WorkedTables.{classes-hold}
use Rattle.collation_table.proofs.worked.classes.Goals as goal

pub returns : goal.returns
returns c = classes-hold
