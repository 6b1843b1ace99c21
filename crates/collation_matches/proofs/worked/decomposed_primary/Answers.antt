use Rattle.collation_matches.proofs.WorkedRowLemmas.{decomposed_primary_lem}
use Rattle.collation_matches.proofs.worked.decomposed_primary.Goals as goal

pub returns : goal.returns
returns c = decomposed_primary_lem
