use Rattle.std.proofs.Common.{rules}
use Rattle.collation_skip.proofs.begun.Begun.with.Goals as goal

pub returns-in-Whole : goal.returns-in-Whole
returns-in-Whole c = search rules depth 4
