use Rattle.std.proofs.Common.{rules}
use Rattle.colfind_run.proofs.faults.Fault.line.Goals as goal

pub returns-in-At : goal.returns-in-At
returns-in-At c = search rules depth 8
