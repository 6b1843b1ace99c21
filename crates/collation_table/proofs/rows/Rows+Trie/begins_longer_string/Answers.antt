use Rattle.std.proofs.Common.{◌∙◌, ◌∷◌}
use Rattle.collation_table.proofs.IndexLemmas.{found_string, is_some-none}
use Rattle.collation_table.proofs.rows.Rows+Trie.begins_longer_string.Goals as goal

pub returns : goal.returns
returns c = λ off next rest.
    rw (← c.self.view_is) (found_string _ _ _ _ _ _ c.self.invariant.1 (c.args.cp ∷ next ∷ rest) ∙ is_some-none _ (c.begins_longer_string.ensures off next rest))
