use Rattle.std.proofs.Common.{rules}
use Rattle.utf8_cut.proofs.TableLemmas.{ill_three}
use Rattle.utf8_cut.proofs.sequence.of_three.Goals as goal

pub returns-then-not-is_continuation : goal.returns-then-not-is_continuation
returns-then-not-is_continuation c = ill_three _ _ _ c.requires (search rules)
