use Rattle.std.proofs.Common.{◌∙◌, ◌∷◌, sym, arith}
use Rattle.collation_table.specs.Trie.{at}
use Rattle.collation_table.proofs.RowLemmas.{none_of}
use Rattle.collation_table.proofs.TrieLemmas.{seek_ends}
use Rattle.collation_table.proofs.trie.Trie.goes_on.Goals as goal

pub returns : goal.returns
returns c = λ off d rest.
    sym (c.entry-entry.ensures (d ∷ rest)) ∙ seek_ends (at c.args.self.now) c.entry-entry.result (d ∷ rest) (omega arith) (none_of _ (sym c.is_some.ensures ∙ off))
