use Rattle.collation_table.proofs.WorkedTables.{table_faults-hold}
use Rattle.collation_table.proofs.worked.faults_of_tables.Goals as goal

pub returns : goal.returns
returns c = table_faults-hold
