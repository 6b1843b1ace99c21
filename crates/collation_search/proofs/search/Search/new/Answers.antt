use Rattle.collation_search.proofs.search.Search.new.Goals as goal

pub returns-clause-sought : goal.returns-clause-sought
returns-clause-sought g c = c.new_with.ensures.sought
