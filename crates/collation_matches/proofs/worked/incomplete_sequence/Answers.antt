use Rattle.collation_matches.proofs.WorkedRowLemmas.{incomplete_sequence_lem}
use Rattle.collation_matches.proofs.worked.incomplete_sequence.Goals as goal

pub returns : goal.returns
returns c = incomplete_sequence_lem
