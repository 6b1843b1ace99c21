use Rattle.collation_anchored.proofs.EndingTexts.{ends_by_last}
use Rattle.collation_anchored.proofs.laws.ends_by_last_range.Goals as goal

pub returns : goal.returns
returns g c =
    let parts = c.clusters_are_parts.ensures in
    ends_by_last parts.boundaries parts.keys parts.texts (g.W.Weights.table c.args.table.now) c.key_law.ensures.same
