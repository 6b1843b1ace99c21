use Rattle.collation_anchored.proofs.WorkedRowLemmas.{resume_begins_lem}
use Rattle.collation_anchored.proofs.worked.resume_begins.Goals as goal

pub returns : goal.returns
returns c = resume_begins_lem
