-- No points.
use Rattle.collation_states.proofs.StatePointLemmas.{closed-empty, none-held, none-short}
use Rattle.collation_states.proofs.reading.reported.Goals as goal

pub invariant_of-result-clause-closed : goal.invariant_of-result-clause-closed
invariant_of-result-clause-closed c = closed-empty _ c.new-2.ensures

pub invariant_of-result-clause-short_runs : goal.invariant_of-result-clause-short_runs
invariant_of-result-clause-short_runs c = none-short _ c.new-2.ensures

pub invariant_of-result-clause-in_order : goal.invariant_of-result-clause-in_order
invariant_of-result-clause-in_order c = none-held _ c.new-3.ensures
