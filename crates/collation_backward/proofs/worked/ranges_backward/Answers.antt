use Rattle.collation_backward.proofs.WorkedRowLemmas.{ranges_backward_lem}
use Rattle.collation_backward.proofs.worked.ranges_backward.Goals as goal

pub returns : goal.returns
returns c = ranges_backward_lem
