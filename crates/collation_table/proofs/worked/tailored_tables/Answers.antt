use Rattle.collation_table.proofs.WorkedTables.{tailored_tables-hold}
use Rattle.collation_table.proofs.worked.tailored_tables.Goals as goal

pub returns : goal.returns
returns c = tailored_tables-hold
