use Rattle.collation_backward.proofs.WorkedRowLemmas.{fault_in_front_lem}
use Rattle.collation_backward.proofs.worked.fault_in_front.Goals as goal

pub returns : goal.returns
returns c = fault_in_front_lem
