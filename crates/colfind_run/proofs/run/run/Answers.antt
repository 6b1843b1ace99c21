use Rattle.colfind_run.proofs.run.run.Goals as goal

pub returns-clause-done : goal.returns-clause-done
returns-clause-done g c = c.run_with.ensures.done

pub returns-clause-text_fault : goal.returns-clause-text_fault
returns-clause-text_fault g c = c.run_with.ensures.text_fault

pub returns-clause-read_failure : goal.returns-clause-read_failure
returns-clause-read_failure g c = c.run_with.ensures.read_failure

pub returns-clause-write_failure : goal.returns-clause-write_failure
returns-clause-write_failure g c = c.run_with.ensures.write_failure
