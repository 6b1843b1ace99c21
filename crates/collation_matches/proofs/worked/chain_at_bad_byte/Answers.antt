use Rattle.collation_matches.proofs.WorkedRowLemmas.{chain_at_bad_byte_lem}
use Rattle.collation_matches.proofs.worked.chain_at_bad_byte.Goals as goal

pub returns : goal.returns
returns c = chain_at_bad_byte_lem
