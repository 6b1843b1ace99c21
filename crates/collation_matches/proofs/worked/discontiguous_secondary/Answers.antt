use Rattle.collation_matches.proofs.WorkedRowLemmas.{discontiguous_secondary_lem}
use Rattle.collation_matches.proofs.worked.discontiguous_secondary.Goals as goal

pub returns : goal.returns
returns c = discontiguous_secondary_lem
