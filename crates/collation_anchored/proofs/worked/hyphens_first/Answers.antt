use Rattle.collation_anchored.proofs.WorkedRowLemmas.{hyphens_first_lem}
use Rattle.collation_anchored.proofs.worked.hyphens_first.Goals as goal

pub returns : goal.returns
returns c = hyphens_first_lem
