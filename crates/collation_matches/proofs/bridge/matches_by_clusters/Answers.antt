-- By the context law and the key law.
use Rattle.collation_matches.proofs.BridgeMatches.{matches-are_found, settled-are_found, items-give_ranges}
use Rattle.collation_matches.proofs.bridge.matches_by_clusters.Goals as goal

pub returns : goal.returns
returns g c =
    let parts = c.clusters_are_parts.ensures in
    let table = g.W.Weights.table c.args.table.now in
    record {
      matches = matches-are_found parts.boundaries parts.keys parts.texts table c.key_law.ensures.same;
      settled = settled-are_found parts.boundaries parts.keys parts.texts table c.key_law.ensures.same;
      items = items-give_ranges table;
    }
