use Rattle.std.proofs.Common.{◌++◌}
use Rattle.nfd_points.specs.Points.{byte_len, points_from, ordered}
use Rattle.nfd_points.proofs.ReorderingLemmas.{given-all, given-final}
use Rattle.nfd_points.proofs.PushLemmas.{ascii-given_alone}
use Rattle.nfd_points.proofs.laws.laws_of_reordering.Goals as goal

pub returns-clause-last : goal.returns-clause-last
returns-clause-last c = given-final

pub returns-clause-begin : goal.returns-clause-begin
returns-clause-begin c = λ w taken rest given h. (ordered (w.held ++ points_from (byte_len taken) rest), h.continues rest)

pub returns-clause-others : goal.returns-clause-others
returns-clause-others c = given-all

pub returns-clause-ascii : goal.returns-clause-ascii
returns-clause-ascii c = ascii-given_alone
