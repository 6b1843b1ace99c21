-- By the starts of the ranges, which rise.
use Rattle.collation_matches.proofs.FewRanges.{few-answered, few-settled}
use Rattle.collation_matches.proofs.few_ranges.one_range_begins_at_an_offset.Goals as goal

pub returns : goal.returns
returns c = record { answer = few-answered; settled = few-settled }
