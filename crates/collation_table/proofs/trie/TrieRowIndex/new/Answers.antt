use Rattle.collation_table.proofs.TrieLemmas.{nowhere, nowhere_trie, nowhere_place, AreFirst-none}
use Rattle.collation_table.proofs.trie.TrieRowIndex.new.Goals as goal

pub returns-clause-whole : goal.returns-clause-whole
returns-clause-whole c =
    let none = nowhere c.new.result.pages.items c.new-2.result c.new.ensures c.new-2.ensures.empty in
    record { steps = nowhere_trie _ none; marked = λ s cp lt no. none s cp; firsts = AreFirst-none _ _ none c.new-3.ensures }

pub returns-clause-empty : goal.returns-clause-empty
returns-clause-empty c = nowhere_place _ (nowhere c.new.result.pages.items c.new-2.result c.new.ensures c.new-2.ensures.empty)
