-- The clusters before the one more end where it starts.
use Rattle.collation_matches.proofs.BridgeGrowing.{found-more, before_last-prefix, found-begins}
use Rattle.collation_matches.proofs.BridgeFound.{ended_at_most_one}
use Rattle.collation_matches.proofs.bridge.growing_text.Goals as goal

pub returns : goal.returns
returns c = record { more = found-more; at_most_one = ended_at_most_one; but_the_last = before_last-prefix; begins = found-begins }
