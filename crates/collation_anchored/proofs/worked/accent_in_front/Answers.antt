use Rattle.collation_anchored.proofs.WorkedRowLemmas.{accent_in_front_lem}
use Rattle.collation_anchored.proofs.worked.accent_in_front.Goals as goal

pub returns : goal.returns
returns c = accent_in_front_lem
