-- The matches are the ranges of all clusters.
use Rattle.collation_matches.proofs.LagLaw.{matches-found_in_time}
use Rattle.collation_matches.proofs.lag.matches_in_time.Goals as goal

pub returns : goal.returns
returns g c = matches-found_in_time c.ranges_in_time.ensures.all (g.W.Weights.table c.args.table.now) c.matches_by_clusters.ensures.matches
