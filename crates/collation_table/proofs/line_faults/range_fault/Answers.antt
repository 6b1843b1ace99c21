use Rattle.std.proofs.Common.{rules}
use Rattle.collation_table.proofs.line_faults.range_fault.Goals as goal

pub returns-then-saturating_sub-ge-MOST_RANGE_LINES-clause-kind : goal.returns-then-saturating_sub-ge-MOST_RANGE_LINES-clause-kind
returns-then-saturating_sub-ge-MOST_RANGE_LINES-clause-kind g c = search rules depth 3

pub returns-else-saturating_sub-ge-MOST_RANGE_LINES-clause-kind : goal.returns-else-saturating_sub-ge-MOST_RANGE_LINES-clause-kind
returns-else-saturating_sub-ge-MOST_RANGE_LINES-clause-kind g c = search rules depth 3
