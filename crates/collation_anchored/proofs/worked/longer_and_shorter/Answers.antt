use Rattle.collation_anchored.proofs.WorkedRowLemmas.{longer_and_shorter_lem}
use Rattle.collation_anchored.proofs.worked.longer_and_shorter.Goals as goal

pub returns : goal.returns
returns c = longer_and_shorter_lem
