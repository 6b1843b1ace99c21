use Rattle.collation_letters.proofs.store.Letters.count.Goals as goal

pub returns-in-Ok-clause-right : goal.returns-in-Ok-clause-right
returns-in-Ok-clause-right c = λ table pattern kept. (c.keep_all.ensures table pattern (c.in-Ok.ensures table pattern) kept.0, kept.1)
