use Rattle.std.proofs.Common.{rules}
use Rattle.colfind_c.proofs.exports.pending_in.Goals as goal

pub returns-in-Search : goal.returns-in-Search
returns-in-Search c = search rules depth 5
