use Rattle.collation_matches.proofs.WorkedRowLemmas.{overlapping_letters_lem}
use Rattle.collation_matches.proofs.worked.overlapping_letters.Goals as goal

pub returns : goal.returns
returns c = overlapping_letters_lem
