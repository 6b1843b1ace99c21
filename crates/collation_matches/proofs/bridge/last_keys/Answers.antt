-- The last keys begin after a cluster, within it or at its start.
use Rattle.collation_matches.proofs.BridgeFlat.{ended-by_keys}
use Rattle.collation_matches.proofs.BridgeBorder.{ended-by_border}
use Rattle.collation_matches.proofs.bridge.last_keys.Goals as goal

pub returns : goal.returns
returns c = record { keys = ended-by_keys; border = ended-by_border }
