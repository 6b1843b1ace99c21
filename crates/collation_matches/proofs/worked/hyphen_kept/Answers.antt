use Rattle.collation_matches.proofs.WorkedRowLemmas.{hyphen_kept_lem}
use Rattle.collation_matches.proofs.worked.hyphen_kept.Goals as goal

pub returns : goal.returns
returns c = hyphen_kept_lem
