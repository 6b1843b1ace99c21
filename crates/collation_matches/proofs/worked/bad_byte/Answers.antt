use Rattle.collation_matches.proofs.WorkedRowLemmas.{bad_byte_lem}
use Rattle.collation_matches.proofs.worked.bad_byte.Goals as goal

pub returns : goal.returns
returns c = bad_byte_lem
