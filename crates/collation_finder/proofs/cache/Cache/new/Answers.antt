use Rattle.collation_finder.proofs.cache.Cache.new.Goals as goal

pub returns-clause-right : goal.returns-clause-right
returns-clause-right g c = λ table pattern. (c.in_ok-for_long_patterns.ensures table pattern, c.new.ensures table pattern)
