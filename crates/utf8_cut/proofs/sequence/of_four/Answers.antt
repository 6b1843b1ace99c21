use Rattle.std.proofs.Common.{rules}
use Rattle.utf8_cut.proofs.TableLemmas.{ill_four}
use Rattle.utf8_cut.proofs.sequence.of_four.Goals as goal

pub returns-else-is_continuation : goal.returns-else-is_continuation
returns-else-is_continuation c = ill_four _ _ _ _ c.requires (search rules)
