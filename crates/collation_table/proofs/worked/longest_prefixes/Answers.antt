use Rattle.collation_table.proofs.WorkedTables.{longest_prefixes-hold}
use Rattle.collation_table.proofs.worked.longest_prefixes.Goals as goal

pub returns : goal.returns
returns c = longest_prefixes-hold
