use Rattle.std.proofs.Common.{refl}
use Rattle.collation_skip.proofs.RowLemmas.{right-same}
use Rattle.collation_skip.proofs.automaton.Automaton.keep_marks.Goals as goal

pub returns : goal.returns
returns c = λ table pattern. right-same table pattern c.new.result _ refl refl (c.new.ensures table pattern)
