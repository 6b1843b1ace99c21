use Rattle.collation_anchored.proofs.WorkedRowLemmas.{accent_first_lem}
use Rattle.collation_anchored.proofs.worked.accent_first.Goals as goal

pub returns : goal.returns
returns c = accent_first_lem
