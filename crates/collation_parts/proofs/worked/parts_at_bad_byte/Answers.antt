use Rattle.collation_parts.proofs.WorkedRowLemmas.{parts_at_bad_byte_lem}
use Rattle.collation_parts.proofs.worked.parts_at_bad_byte.Goals as goal

pub returns : goal.returns
returns c = parts_at_bad_byte_lem
