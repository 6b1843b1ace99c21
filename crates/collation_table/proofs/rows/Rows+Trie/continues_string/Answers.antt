use Rattle.std.proofs.Common.{◌∙◌, ◌∷◌, ◌++◌}
use Rattle.collation_table.proofs.IndexLemmas.{found_string, is_some-none}
use Rattle.collation_table.proofs.rows.Rows+Trie.continues_string.Goals as goal

pub returns : goal.returns
returns c = λ off first prefix rest.
    rw (← c.self.view_is) (found_string _ _ _ _ _ _ c.self.invariant.1 (first ∷ (prefix ++ c.args.cp ∷ rest)) ∙ is_some-none _ (c.continues_string.ensures off first prefix rest))
