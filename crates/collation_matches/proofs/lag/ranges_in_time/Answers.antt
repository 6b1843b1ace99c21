-- By how many points a code point has, what a reorderer holds, and where the units of a text part.
use Rattle.collation_matches.proofs.LagLaw.{LagLaws, ranges-found, settled-found_in_time}
use Rattle.collation_matches.proofs.lag.ranges_in_time.Goals as goal

pub returns : goal.returns
returns c =
    let laws : LagLaws = record {
      short = c.laws_of_decompositions.ensures.short;
      others = c.laws_of_reordering.ensures.others;
      parts = c.clusters_begin_afresh.ensures.units;
      bounded = c.clusters_are_parts.ensures.boundaries;
    } in
    record { all = ranges-found laws; before_last = settled-found_in_time laws }
