use Rattle.collation_anchored.proofs.WorkedRowLemmas.{hangul_begins_lem}
use Rattle.collation_anchored.proofs.worked.hangul_begins.Goals as goal

pub returns : goal.returns
returns c = hangul_begins_lem
