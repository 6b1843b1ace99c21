use Rattle.collation_backward.proofs.WorkedRowLemmas.{contraction_behind_lem}
use Rattle.collation_backward.proofs.worked.contraction_behind.Goals as goal

pub returns : goal.returns
returns c = contraction_behind_lem
