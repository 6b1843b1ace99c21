use Rattle.collation_safe.proofs.WorkedRowLemmas.{offsets_of_text_lem}
use Rattle.collation_safe.proofs.worked.offsets_of_text.Goals as goal

pub returns : goal.returns
returns c = offsets_of_text_lem
