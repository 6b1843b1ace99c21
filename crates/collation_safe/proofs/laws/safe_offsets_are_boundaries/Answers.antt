-- A safe offset is a boundary.
use Rattle.collation_matches.proofs.OffsetFaults.{RestLaws}
use Rattle.collation_safe.proofs.SafeOffsets.{safe-boundaries, safe-places}
use Rattle.collation_safe.proofs.laws.safe_offsets_are_boundaries.Goals as goal

pub returns : goal.returns
returns c =
    let whole = c.whole_characters_are_the_longest_text.ensures in
    let part = c.laws_of_points.ensures.texts in
    let apart = c.units_stay_apart.ensures.before in
    let laws : RestLaws = record {
      texts = record { text = whole.text; longest = whole.longest; within = whole.within; faults = c.laws_of_faults.ensures.following };
      in_prefix = c.laws_of_faults.ensures.in_prefix;
      starters = c.laws_of_ordering.ensures.starters;
      counts = c.laws_of_ordering.ensures.counts;
      short = c.laws_of_decompositions.ensures.short;
      ends = c.text_may_stand_before.ensures.end;
      parts = c.clusters_begin_afresh.ensures.units;
    } in
    record { boundaries = safe-boundaries part apart; places = safe-places part apart laws }
