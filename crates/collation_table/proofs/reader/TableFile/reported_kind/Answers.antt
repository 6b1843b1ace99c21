use Rattle.std.proofs.Common.{rules}
use Rattle.collation_table.proofs.reader.TableFile.reported_kind.Goals as goal

pub returns-in-Tailor : goal.returns-in-Tailor
returns-in-Tailor c = search rules depth 4
