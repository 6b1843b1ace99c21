use Rattle.std.proofs.Common.{rules}
use Rattle.colfind_io.proofs.output.Output.last_line.Goals as goal

pub returns-in_default : goal.returns-in_default
returns-in_default c = search rules depth 5 steps 300000
