use Rattle.collation_backward.proofs.WorkedRowLemmas.{last_ranges_lem}
use Rattle.collation_backward.proofs.worked.last_ranges.Goals as goal

pub returns : goal.returns
returns c = last_ranges_lem
