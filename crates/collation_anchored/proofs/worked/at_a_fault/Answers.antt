use Rattle.collation_anchored.proofs.WorkedRowLemmas.{at_a_fault_lem}
use Rattle.collation_anchored.proofs.worked.at_a_fault.Goals as goal

pub returns : goal.returns
returns c = at_a_fault_lem
