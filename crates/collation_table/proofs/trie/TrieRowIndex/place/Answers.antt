use Rattle.std.proofs.Common.{◌∙◌, [], ap}
use Rattle.collation_table.specs.Trie.{place_of}
use Rattle.collation_table.proofs.TrieLemmas.{append_nil}
use Rattle.collation_table.proofs.trie.TrieRowIndex.place.Goals as goal

pub returns : goal.returns
returns c = c.entry.ensures [] ∙ ap (place_of c.args.self.now) (append_nil c.args.string.now)
