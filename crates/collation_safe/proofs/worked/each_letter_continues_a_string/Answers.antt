use Rattle.collation_safe.proofs.WorkedRowLemmas.{each_letter_continues_a_string_lem}
use Rattle.collation_safe.proofs.worked.each_letter_continues_a_string.Goals as goal

pub returns : goal.returns
returns c = each_letter_continues_a_string_lem
