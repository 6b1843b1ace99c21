-- The parts have the answer of the whole.
use Rattle.collation_matches.proofs.OffsetFaults.{RestLaws}
use Rattle.collation_parts.proofs.PartedTexts.{parts-have-their-answer, parts-have-the-whole}
use Rattle.collation_parts.proofs.laws.parts_have_the_whole.Goals as goal

pub returns-clause-parts : goal.returns-clause-parts
returns-clause-parts g c =
    let whole = c.whole_characters_are_the_longest_text.ensures in
    let laws : RestLaws = record {
      texts = record { text = whole.text; longest = whole.longest; within = whole.within; faults = c.laws_of_faults.ensures.following };
      in_prefix = c.laws_of_faults.ensures.in_prefix;
      starters = c.laws_of_ordering.ensures.starters;
      counts = c.laws_of_ordering.ensures.counts;
      short = c.laws_of_decompositions.ensures.short;
      ends = c.text_may_stand_before.ensures.end;
      parts = c.clusters_begin_afresh.ensures.units;
    } in
    parts-have-their-answer laws c.clusters_are_parts.ensures.boundaries (g.W.Weights.table c.args.table.now) c.matches_by_clusters.ensures.matches

pub returns-clause-whole : goal.returns-clause-whole
returns-clause-whole g c =
    let whole = c.whole_characters_are_the_longest_text.ensures in
    let laws : RestLaws = record {
      texts = record { text = whole.text; longest = whole.longest; within = whole.within; faults = c.laws_of_faults.ensures.following };
      in_prefix = c.laws_of_faults.ensures.in_prefix;
      starters = c.laws_of_ordering.ensures.starters;
      counts = c.laws_of_ordering.ensures.counts;
      short = c.laws_of_decompositions.ensures.short;
      ends = c.text_may_stand_before.ensures.end;
      parts = c.clusters_begin_afresh.ensures.units;
    } in
    let table = g.W.Weights.table c.args.table.now in
    parts-have-the-whole c.parts_give_the_answer.ensures table
    (parts-have-their-answer laws c.clusters_are_parts.ensures.boundaries table c.matches_by_clusters.ensures.matches)
