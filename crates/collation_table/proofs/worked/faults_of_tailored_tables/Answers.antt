use Rattle.collation_table.proofs.WorkedTables.{tailored_faults-hold}
use Rattle.collation_table.proofs.worked.faults_of_tailored_tables.Goals as goal

pub returns : goal.returns
returns c = tailored_faults-hold
