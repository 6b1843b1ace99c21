use Rattle.std.proofs.Common.{arith}
use Rattle.utf8_cut.proofs.TableLemmas.{ill_one, is_below, is_above}
use Rattle.utf8_cut.proofs.sequence.of_one.Goals as goal

pub returns-in_default : goal.returns-in_default
returns-in_default c = let x = c.args.first in ill_one x (omega arith) (is_below 0xC2 0xF4 x (omega arith))

pub returns-in_default-2 : goal.returns-in_default-2
returns-in_default-2 c = let x = c.args.first in ill_one x (omega arith) (is_above 0xC2 0xF4 x (omega arith))
