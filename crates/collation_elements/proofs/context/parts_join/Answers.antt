use Rattle.collation_elements.proofs.ContextJoined.{elements_join, keys_join}
use Rattle.collation_elements.proofs.PointLaws.{PointLaws}
use Rattle.collation_elements.proofs.context.parts_join.Goals as goal

pub returns : goal.returns
returns c =
    let laws : PointLaws = record {
      short = c.laws_of_decompositions.ensures.short;
      bytes = c.laws_of_points.ensures.bytes;
      cuts = c.laws_of_points.ensures.cuts;
      ordering_counts = c.laws_of_ordering.ensures.counts;
    } in
    record { elements = elements_join laws; keys = keys_join laws }
