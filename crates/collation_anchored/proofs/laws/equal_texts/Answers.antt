use Rattle.collation_anchored.proofs.EqualTexts.{equal_sort_keys, equal_to_itself, equal_both_ways, equal_in_turn}
use Rattle.collation_anchored.proofs.laws.equal_texts.Goals as goal

pub returns-clause-sort_keys : goal.returns-clause-sort_keys
returns-clause-sort_keys c = equal_sort_keys

pub returns-clause-itself : goal.returns-clause-itself
returns-clause-itself c = equal_to_itself

pub returns-clause-both_ways : goal.returns-clause-both_ways
returns-clause-both_ways c = equal_both_ways

pub returns-clause-in_turn : goal.returns-clause-in_turn
returns-clause-in_turn c = equal_in_turn
