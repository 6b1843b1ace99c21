use Rattle.collation_matches.proofs.WorkedRowLemmas.{inside_contraction_lem}
use Rattle.collation_matches.proofs.worked.inside_contraction.Goals as goal

pub returns : goal.returns
returns c = inside_contraction_lem
