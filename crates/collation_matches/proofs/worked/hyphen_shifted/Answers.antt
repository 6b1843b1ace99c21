use Rattle.collation_matches.proofs.WorkedRowLemmas.{hyphen_shifted_lem}
use Rattle.collation_matches.proofs.worked.hyphen_shifted.Goals as goal

pub returns : goal.returns
returns c = hyphen_shifted_lem
