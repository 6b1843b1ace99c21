use Rattle.nfd_points.proofs.AnewLemmas.{few-good, starters-anew}
use Rattle.nfd_points.proofs.RunLemmas.{fault_from-good, fault_from-prefix, fault_of_code_point-kind}
use Rattle.nfd_points.proofs.ShortRunLemmas.{short-points, good-short, fault-long}
use Rattle.nfd_points.proofs.laws.laws_of_faults.Goals as goal

pub returns-clause-following : goal.returns-clause-following
returns-clause-following c = fault_from-good

pub returns-clause-in_prefix : goal.returns-clause-in_prefix
returns-clause-in_prefix c = fault_from-prefix

pub returns-clause-runs : goal.returns-clause-runs
returns-clause-runs c = fault_of_code_point-kind

pub returns-clause-short : goal.returns-clause-short
returns-clause-short c = short-points

pub returns-clause-good : goal.returns-clause-good
returns-clause-good c = good-short

pub returns-clause-long : goal.returns-clause-long
returns-clause-long c = fault-long

pub returns-clause-few : goal.returns-clause-few
returns-clause-few c = few-good

pub returns-clause-anew : goal.returns-clause-anew
returns-clause-anew c = starters-anew
