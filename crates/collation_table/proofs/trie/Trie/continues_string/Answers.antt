use Rattle.collation_table.specs.Trie.{at}
use Rattle.collation_table.proofs.TrieLemmas.{no_string_with}
use Rattle.collation_table.proofs.trie.Trie.continues_string.Goals as goal

pub returns : goal.returns
returns c = λ no first prefix rest.
    no_string_with (at c.args.self.now) _ c.requires.steps c.args.cp (λ s lt. c.requires.marked s c.args.cp lt (rw (← c.get.ensures) no)) prefix 0 first rest
