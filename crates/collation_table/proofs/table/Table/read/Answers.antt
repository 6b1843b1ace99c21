use Rattle.std.proofs.Common.{rules}
use Rattle.collation_table.proofs.table.Table.read.Goals as goal

pub returns-clause-fault : goal.returns-clause-fault
returns-clause-fault c = search rules depth 3
