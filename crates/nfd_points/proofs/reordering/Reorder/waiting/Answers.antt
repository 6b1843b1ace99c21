use Rattle.std.proofs.Common.{rules}
use Rattle.nfd_points.proofs.reordering.Reorder.waiting.Goals as goal

pub returns-clause-value : goal.returns-clause-value
returns-clause-value c = search rules depth 4
