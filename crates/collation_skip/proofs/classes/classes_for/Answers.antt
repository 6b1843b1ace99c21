use Rattle.collation_skip.proofs.classes.classes_for.Goals as goal

pub returns-then-are_right-clause-classes : goal.returns-then-are_right-clause-classes
returns-then-are_right-clause-classes g c = c.are_right.ensures c.if-are_right.true (g.W.Weights.table c.args.table.now) c.find_letters.ensures
