-- By the members of both lists, which rise.
use Rattle.collation_matches.proofs.BridgeMatches.{minimal-found_by_clusters}
use Rattle.collation_matches.proofs.bridge.minimal_ranges.Goals as goal

pub returns : goal.returns
returns c = minimal-found_by_clusters
