use Rattle.collation_elements.proofs.ContextBoundaries.{boundaries_start}
use Rattle.collation_elements.proofs.ContextLaw.{parts_have_keys, parts_are_utf8}
use Rattle.collation_elements.proofs.PointLaws.{PointLaws}
use Rattle.collation_elements.proofs.context.clusters_are_parts.Goals as goal

pub returns : goal.returns
returns c =
    let laws : PointLaws = record {
      short = c.laws_of_decompositions.ensures.short;
      bytes = c.laws_of_points.ensures.bytes;
      cuts = c.laws_of_points.ensures.cuts;
      ordering_counts = c.laws_of_ordering.ensures.counts;
    } in
    record { boundaries = boundaries_start laws; keys = parts_have_keys laws; texts = parts_are_utf8 laws }
