use Rattle.collation_safe.proofs.WorkedRowLemmas.{ignorable_string_lem}
use Rattle.collation_safe.proofs.worked.ignorable_string.Goals as goal

pub returns : goal.returns
returns c = ignorable_string_lem
