use Rattle.std.proofs.Common.{rules}
use Rattle.collation_table.proofs.trie.Trie.lone_place.Goals as goal

pub returns-clause-place : goal.returns-clause-place
returns-clause-place c = search rules depth 4
