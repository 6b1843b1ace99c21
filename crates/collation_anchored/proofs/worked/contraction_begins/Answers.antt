use Rattle.collation_anchored.proofs.WorkedRowLemmas.{contraction_begins_lem}
use Rattle.collation_anchored.proofs.worked.contraction_begins.Goals as goal

pub returns : goal.returns
returns c = contraction_begins_lem
