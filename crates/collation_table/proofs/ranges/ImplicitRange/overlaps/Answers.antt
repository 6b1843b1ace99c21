use Rattle.std.proofs.Common.{rules}
use Rattle.collation_table.proofs.ranges.ImplicitRange.overlaps.Goals as goal

pub returns-else-self-other : goal.returns-else-self-other
returns-else-self-other c = search rules depth 4
