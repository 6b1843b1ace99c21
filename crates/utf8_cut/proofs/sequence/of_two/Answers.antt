use Rattle.std.proofs.Common.{rules}
use Rattle.utf8_cut.proofs.TableLemmas.{ill_two}
use Rattle.utf8_cut.proofs.sequence.of_two.Goals as goal

pub returns-then-not-may_be_second : goal.returns-then-not-may_be_second
returns-then-not-may_be_second c = ill_two _ _ c.requires (search rules)
