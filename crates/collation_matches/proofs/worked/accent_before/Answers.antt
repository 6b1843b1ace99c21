use Rattle.collation_matches.proofs.WorkedRowLemmas.{accent_before_lem}
use Rattle.collation_matches.proofs.worked.accent_before.Goals as goal

pub returns : goal.returns
returns c = accent_before_lem
