-- By computing.
use Rattle.collation_states.proofs.WorkedStateLemmas.{chain_lem}
use Rattle.collation_states.proofs.worked_states.chain_states.Goals as goal

pub returns : goal.returns
returns c = chain_lem
