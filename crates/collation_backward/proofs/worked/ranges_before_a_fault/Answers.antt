use Rattle.collation_backward.proofs.WorkedRowLemmas.{ranges_before_a_fault_lem}
use Rattle.collation_backward.proofs.worked.ranges_before_a_fault.Goals as goal

pub returns : goal.returns
returns c = ranges_before_a_fault_lem
