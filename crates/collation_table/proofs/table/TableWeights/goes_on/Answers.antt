use Rattle.std.proofs.Common.{◌∙◌, ◌∷◌, ◌++◌}
use Rattle.collation_table.proofs.IndexLemmas.{is_some-none}
use Rattle.collation_table.proofs.table.TableWeights.goes_on.Goals as goal

pub returns : goal.returns
returns c = λ off next rest. c.index.ensures.places (c.args.string.now ++ next ∷ rest) ∙ is_some-none _ (c.goes_on.ensures off next rest)
