use Rattle.collation_safe.proofs.WorkedRowLemmas.{characters_without_rows_lem}
use Rattle.collation_safe.proofs.worked.characters_without_rows.Goals as goal

pub returns : goal.returns
returns c = characters_without_rows_lem
