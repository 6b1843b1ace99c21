use Rattle.collation_matches.proofs.WorkedRowLemmas.{composed_primary_lem}
use Rattle.collation_matches.proofs.worked.composed_primary.Goals as goal

pub returns : goal.returns
returns c = composed_primary_lem
