use Rattle.collation_anchored.proofs.WorkedRowLemmas.{resume_at_each_strength_lem}
use Rattle.collation_anchored.proofs.worked.resume_at_each_strength.Goals as goal

pub returns : goal.returns
returns c = resume_at_each_strength_lem
