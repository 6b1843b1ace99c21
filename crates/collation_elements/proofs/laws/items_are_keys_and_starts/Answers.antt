use Rattle.collation_elements.proofs.ItemLaws.{item_keys-text, item_starts-text}
use Rattle.collation_elements.proofs.laws.items_are_keys_and_starts.Goals as goal

pub returns-clause-keys : goal.returns-clause-keys
returns-clause-keys c = item_keys-text

pub returns-clause-starts : goal.returns-clause-starts
returns-clause-starts c = item_starts-text
