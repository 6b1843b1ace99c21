use Rattle.collation_finder.proofs.cache.Cache.prepare.Goals as goal

pub returns : goal.returns
returns c = λ table pattern h. (h.0, h.1)
