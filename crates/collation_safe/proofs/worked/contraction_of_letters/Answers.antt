use Rattle.collation_safe.proofs.WorkedRowLemmas.{contraction_of_letters_lem}
use Rattle.collation_safe.proofs.worked.contraction_of_letters.Goals as goal

pub returns : goal.returns
returns c = contraction_of_letters_lem
