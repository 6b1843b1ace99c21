use Rattle.colfind_run.proofs.Searches.{finds_selected}
use Rattle.colfind_run.proofs.program.search_in.Goals as goal

pub returns-in-Done-clause-found : goal.returns-in-Done-clause-found
returns-in-Done-clause-found g c = λ p compiled.
    finds_selected _ _ _ p c.args.form c.args.select _ _ _ _ _ (g.met.W.Weights.well_formed c.args.table.now)
    (rw c.in-Done.is at c.run_with.ensures.done p compiled)
