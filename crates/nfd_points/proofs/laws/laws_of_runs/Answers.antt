use Rattle.nfd_points.proofs.GivenRunLemmas.{short-join}
use Rattle.nfd_points.proofs.laws.laws_of_runs.Goals as goal

pub returns : goal.returns
returns c = record { join = short-join }
