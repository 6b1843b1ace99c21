use Rattle.collation_matches.proofs.WorkedRowLemmas.{discontiguous_lem}
use Rattle.collation_matches.proofs.worked.discontiguous.Goals as goal

pub returns : goal.returns
returns c = discontiguous_lem
