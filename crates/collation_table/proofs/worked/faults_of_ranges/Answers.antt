use Rattle.collation_table.proofs.WorkedTables.{range_faults-hold}
use Rattle.collation_table.proofs.worked.faults_of_ranges.Goals as goal

pub returns : goal.returns
returns c = range_faults-hold
