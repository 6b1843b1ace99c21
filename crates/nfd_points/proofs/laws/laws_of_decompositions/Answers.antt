use Rattle.nfd_points.proofs.DecompositionLemmas.{length-decomposition, decomposition-some, decomposition-other, class-other}
use Rattle.nfd_points.proofs.PointsLemmas.{points_of-ascii, is_in_order-points_of}
use Rattle.nfd_points.proofs.laws.laws_of_decompositions.Goals as goal

pub returns-clause-short : goal.returns-clause-short
returns-clause-short c = λ n. (decomposition-some n, length-decomposition n)

pub returns-clause-others : goal.returns-clause-others
returns-clause-others c = λ n h. (decomposition-other n h, class-other n h)

pub returns-clause-ascii : goal.returns-clause-ascii
returns-clause-ascii c = points_of-ascii

pub returns-clause-in_order : goal.returns-clause-in_order
returns-clause-in_order c = is_in_order-points_of
