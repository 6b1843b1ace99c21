use Rattle.collation_backward.proofs.WorkedRowLemmas.{fault_behind_lem}
use Rattle.collation_backward.proofs.worked.fault_behind.Goals as goal

pub returns : goal.returns
returns c = fault_behind_lem
