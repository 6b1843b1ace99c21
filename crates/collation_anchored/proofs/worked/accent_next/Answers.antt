use Rattle.collation_anchored.proofs.WorkedRowLemmas.{accent_next_lem}
use Rattle.collation_anchored.proofs.worked.accent_next.Goals as goal

pub returns : goal.returns
returns c = accent_next_lem
