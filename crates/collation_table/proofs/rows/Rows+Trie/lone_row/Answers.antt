use Rattle.std.proofs.Common.{◌∙◌, sym, [], ◌∷◌}
use Rattle.collation_table.proofs.IndexLemmas.{found_string, is_some-none}
use Rattle.collation_table.proofs.rows.Rows+Trie.lone_row.Goals as goal

pub elements_at-requires-clause-start : goal.elements_at-requires-clause-start
elements_at-requires-clause-start c =
    (c.self.invariant.1.lent (c.args.cp ∷ []) c.in-Some-Some.place (sym c.in-Some-Some.ensures.place ∙ c.in-Some-Some.field-0-is)).0

pub elements_at-requires-clause-end : goal.elements_at-requires-clause-end
elements_at-requires-clause-end c =
    rw c.as_slice.ensures.value ((c.self.invariant.1.lent (c.args.cp ∷ []) c.in-Some-Some.place (sym c.in-Some-Some.ensures.place ∙ c.in-Some-Some.field-0-is)).1)

pub returns-in-Some-Some-clause-alone : goal.returns-in-Some-Some-clause-alone
returns-in-Some-Some-clause-alone c = λ next rest.
    rw (← c.self.view_is) (found_string _ _ _ _ _ _ c.self.invariant.1 (c.args.cp ∷ next ∷ rest) ∙ is_some-none _ (c.in-Some-Some.ensures.alone next rest))

pub returns-in-Some-None-clause-alone : goal.returns-in-Some-None-clause-alone
returns-in-Some-None-clause-alone c = λ next rest.
    rw (← c.self.view_is) (found_string _ _ _ _ _ _ c.self.invariant.1 (c.args.cp ∷ next ∷ rest) ∙ is_some-none _ (c.in-Some-None.ensures.alone next rest))
