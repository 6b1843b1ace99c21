use Rattle.collation_matches.proofs.WorkedRowLemmas.{rest_amid_contraction_lem}
use Rattle.collation_matches.proofs.worked.rest_amid_contraction.Goals as goal

pub returns : goal.returns
returns c = rest_amid_contraction_lem
