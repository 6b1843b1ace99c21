use Rattle.std.proofs.Common.{rules}
use Rattle.collation_table.proofs.table.TableWeights.most_elements.Goals as goal

pub returns : goal.returns
returns c = search rules depth 3
