use Rattle.collation_elements.proofs.ContextTexts.{units-split}
use Rattle.collation_elements.proofs.ContextWeights.{weighted_rows-primary}
use Rattle.collation_elements.proofs.PointLaws.{PointLaws}
use Rattle.collation_elements.proofs.context.clusters_begin_afresh.Goals as goal

pub returns : goal.returns
returns c =
    let laws : PointLaws = record {
      short = c.laws_of_decompositions.ensures.short;
      bytes = c.laws_of_points.ensures.bytes;
      cuts = c.laws_of_points.ensures.cuts;
      ordering_counts = c.laws_of_ordering.ensures.counts;
    } in
    record { units = units-split laws; weights = weighted_rows-primary }
