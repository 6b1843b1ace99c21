-- By computing.
use Rattle.collation_states.proofs.WorkedStateLemmas.{changed_lem}
use Rattle.collation_states.proofs.worked_states.changed_states.Goals as goal

pub returns : goal.returns
returns c = changed_lem
