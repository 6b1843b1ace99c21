-- The parts have the answer of the whole.
use Rattle.collation_matches.proofs.OffsetFaults.{RestLaws}
use Rattle.collation_matches.proofs.PartLemmas.{parts-give-the-answer}
use Rattle.collation_matches.proofs.parts.parts_give_the_answer.Goals as goal

pub returns : goal.returns
returns c =
    let whole = c.whole_characters_are_the_longest_text.ensures in
    let laws : RestLaws = record {
      texts = record { text = whole.text; longest = whole.longest; within = whole.within; faults = c.laws_of_faults.ensures.following };
      in_prefix = c.laws_of_faults.ensures.in_prefix;
      starters = c.laws_of_ordering.ensures.starters;
      counts = c.laws_of_ordering.ensures.counts;
      short = c.laws_of_decompositions.ensures.short;
      ends = c.text_may_stand_before.ensures.end;
      parts = c.clusters_begin_afresh.ensures.units;
    } in
    parts-give-the-answer laws
