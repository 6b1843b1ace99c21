use Rattle.collation_table.proofs.WorkedTables.{accepted_tables-hold}
use Rattle.collation_table.proofs.worked.accepted_tables.Goals as goal

pub returns : goal.returns
returns c = accepted_tables-hold
