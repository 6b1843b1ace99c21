use Rattle.collation_table.proofs.WorkedTables.{line_faults-hold}
use Rattle.collation_table.proofs.worked.faults_of_lines.Goals as goal

pub returns : goal.returns
returns c = line_faults-hold
