use Rattle.std.proofs.Common.{◌∙◌, ap, sym, rules}
use Rattle.nfd_points.specs.Points.{points_of}
use Rattle.collation_letters.proofs.PairLemmas.{points-pair}
use Rattle.collation_letters.proofs.pairs.points_of_pair.Goals as goal

pub returns-clause-points : goal.returns-clause-points
returns-clause-points g c =
    points-pair c.args.first c.args.second c.in_ok-one.one c.in_ok-other.other c.in_ok-one.ensures.point
    (ap (λ at. points_of at c.args.second) (sym c.len_utf8.ensures.value) ∙ c.in_ok-other.ensures.point)

pub returns-clause-longest : goal.returns-clause-longest
returns-clause-longest g c = search rules depth 4
