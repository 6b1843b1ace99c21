use Rattle.collation_search.proofs.WorkedStatesAfterLemmas.{states_after}
use Rattle.collation_search.proofs.worked.states_after.Goals as goal

pub returns : goal.returns
returns c = states_after
