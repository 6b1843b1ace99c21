use Rattle.collation_matches.proofs.WorkedRowLemmas.{blocked_base_lem}
use Rattle.collation_matches.proofs.worked.blocked_base.Goals as goal

pub returns : goal.returns
returns c = blocked_base_lem
