use Rattle.collation_search.proofs.WorkedStatesAfterLemmas.{ranges_in_time}
use Rattle.collation_search.proofs.worked.ranges_in_time.Goals as goal

pub returns : goal.returns
returns c = ranges_in_time
