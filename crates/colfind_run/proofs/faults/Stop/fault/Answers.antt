use Rattle.std.proofs.Common.{rules}
use Rattle.colfind_run.proofs.faults.Stop.fault.Goals as goal

pub returns-in-Table : goal.returns-in-Table
returns-in-Table c = search rules depth 4
