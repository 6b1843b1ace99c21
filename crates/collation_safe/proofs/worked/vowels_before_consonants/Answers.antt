use Rattle.collation_safe.proofs.WorkedRowLemmas.{vowels_before_consonants_lem}
use Rattle.collation_safe.proofs.worked.vowels_before_consonants.Goals as goal

pub returns : goal.returns
returns c = vowels_before_consonants_lem
