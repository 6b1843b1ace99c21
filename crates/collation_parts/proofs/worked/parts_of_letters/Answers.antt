use Rattle.collation_parts.proofs.WorkedRowLemmas.{parts_of_letters_lem}
use Rattle.collation_parts.proofs.worked.parts_of_letters.Goals as goal

pub returns : goal.returns
returns c = parts_of_letters_lem
