use Rattle.collation_table.proofs.WorkedTables.{row_faults-hold}
use Rattle.collation_table.proofs.worked.faults_of_rows.Goals as goal

pub returns : goal.returns
returns c = row_faults-hold
