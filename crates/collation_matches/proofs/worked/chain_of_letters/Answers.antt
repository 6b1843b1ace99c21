use Rattle.collation_matches.proofs.WorkedRowLemmas.{chain_of_letters_lem}
use Rattle.collation_matches.proofs.worked.chain_of_letters.Goals as goal

pub returns : goal.returns
returns c = chain_of_letters_lem
