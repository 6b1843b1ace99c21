use Rattle.collation_matches.proofs.WorkedRowLemmas.{composed_secondary_lem}
use Rattle.collation_matches.proofs.worked.composed_secondary.Goals as goal

pub returns : goal.returns
returns c = composed_secondary_lem
