use Rattle.collation_anchored.proofs.WorkedRowLemmas.{too_long_and_too_short_lem}
use Rattle.collation_anchored.proofs.worked.too_long_and_too_short.Goals as goal

pub returns : goal.returns
returns c = too_long_and_too_short_lem
