use Rattle.collation_anchored.proofs.WorkedRowLemmas.{composed_and_decomposed_lem}
use Rattle.collation_anchored.proofs.worked.composed_and_decomposed.Goals as goal

pub returns : goal.returns
returns c = composed_and_decomposed_lem
