use Rattle.std.proofs.Common.{rules}
use Rattle.collation_elements.proofs.weigher.Weigher.weigh.Goals as goal

pub returns-else-is_ignored-clause-element : goal.returns-else-is_ignored-clause-element
returns-else-is_ignored-clause-element c = search rules depth 3
