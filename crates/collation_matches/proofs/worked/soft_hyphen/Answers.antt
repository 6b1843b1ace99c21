use Rattle.collation_matches.proofs.WorkedRowLemmas.{soft_hyphen_lem}
use Rattle.collation_matches.proofs.worked.soft_hyphen.Goals as goal

pub returns : goal.returns
returns c = soft_hyphen_lem
