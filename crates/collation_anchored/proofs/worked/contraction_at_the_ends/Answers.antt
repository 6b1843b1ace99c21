use Rattle.collation_anchored.proofs.WorkedRowLemmas.{contraction_at_the_ends_lem}
use Rattle.collation_anchored.proofs.worked.contraction_at_the_ends.Goals as goal

pub returns : goal.returns
returns c = contraction_at_the_ends_lem
