-- Each call gives the range before the one that the call before it gave.
use Rattle.collation_matches.proofs.OffsetFaults.{RestLaws}
use Rattle.collation_backward.proofs.BackwardCalls.{calls-go-back}
use Rattle.collation_backward.proofs.laws.calls_go_back.Goals as goal

pub returns : goal.returns
returns g c =
    let whole = c.whole_characters_are_the_longest_text.ensures in
    let laws : RestLaws = record {
      texts = record { text = whole.text; longest = whole.longest; within = whole.within; faults = c.laws_of_faults.ensures.following };
      in_prefix = c.laws_of_faults.ensures.in_prefix;
      starters = c.laws_of_ordering.ensures.starters;
      counts = c.laws_of_ordering.ensures.counts;
      short = c.laws_of_decompositions.ensures.short;
      ends = c.text_may_stand_before.ensures.end;
      parts = c.clusters_begin_afresh.ensures.units;
    } in
    calls-go-back laws c.clusters_are_parts.ensures.boundaries (g.W.Weights.table c.args.table.now) c.matches_by_clusters.ensures.matches
