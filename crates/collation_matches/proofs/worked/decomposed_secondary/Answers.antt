use Rattle.collation_matches.proofs.WorkedRowLemmas.{decomposed_secondary_lem}
use Rattle.collation_matches.proofs.worked.decomposed_secondary.Goals as goal

pub returns : goal.returns
returns c = decomposed_secondary_lem
