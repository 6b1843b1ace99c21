-- By computing.
use Rattle.collation_states.proofs.WorkedStateLemmas.{accepted_lem}
use Rattle.collation_states.proofs.worked_states.accepted_states.Goals as goal

pub returns : goal.returns
returns c = accepted_lem
