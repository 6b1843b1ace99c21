use Rattle.std.proofs.Common.{rules}
use Rattle.colfind_c.proofs.exports.strength_of.Goals as goal

pub returns-in-2 : goal.returns-in-2
returns-in-2 c = search rules depth 5
