use Rattle.collation_backward.proofs.WorkedRowLemmas.{hyphens_behind_lem}
use Rattle.collation_backward.proofs.worked.hyphens_behind.Goals as goal

pub returns : goal.returns
returns c = hyphens_behind_lem
