use Rattle.collation_table.proofs.table.TableWeights.longest.Goals as goal

pub returns-clause-value : goal.returns-clause-value
returns-clause-value c = c.longest.ensures.value c.args.self.now.rows c.index.ensures.places
