use Rattle.collation_backward.proofs.WorkedRowLemmas.{ends_of_letters_lem}
use Rattle.collation_backward.proofs.worked.ends_of_letters.Goals as goal

pub returns : goal.returns
returns c = ends_of_letters_lem
