use Rattle.collation_anchored.proofs.WorkedRowLemmas.{begins_at_a_fault_lem}
use Rattle.collation_anchored.proofs.worked.begins_at_a_fault.Goals as goal

pub returns : goal.returns
returns c = begins_at_a_fault_lem
