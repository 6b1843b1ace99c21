use Rattle.collation_matches.proofs.WorkedRowLemmas.{blocked_accent_lem}
use Rattle.collation_matches.proofs.worked.blocked_accent.Goals as goal

pub returns : goal.returns
returns c = blocked_accent_lem
