use Rattle.collation_anchored.proofs.WorkedRowLemmas.{hyphens_around_lem}
use Rattle.collation_anchored.proofs.worked.hyphens_around.Goals as goal

pub returns : goal.returns
returns c = hyphens_around_lem
