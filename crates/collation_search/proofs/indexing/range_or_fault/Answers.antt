use Rattle.std.proofs.Common.{rules}
use Rattle.collation_search.proofs.indexing.range_or_fault.Goals as goal

pub returns-in-None-Err : goal.returns-in-None-Err
returns-in-None-Err c = search rules depth 4 steps 300000
