use Rattle.collation_backward.proofs.WorkedRowLemmas.{accent_behind_lem}
use Rattle.collation_backward.proofs.worked.accent_behind.Goals as goal

pub returns : goal.returns
returns c = accent_behind_lem
