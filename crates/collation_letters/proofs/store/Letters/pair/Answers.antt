use Rattle.collation_letters.proofs.store.Letters.pair.Goals as goal

pub returns-in-Some-clause-letter : goal.returns-in-Some-clause-letter
returns-in-Some-clause-letter g c = c.in-Some.ensures.right (g.W.Weights.table c.args.table.now) c.args.pattern.now c.requires.1
