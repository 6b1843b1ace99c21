use Rattle.collation_safe.proofs.WorkedRowLemmas.{marks_and_ignorables_lem}
use Rattle.collation_safe.proofs.worked.marks_and_ignorables.Goals as goal

pub returns : goal.returns
returns c = marks_and_ignorables_lem
