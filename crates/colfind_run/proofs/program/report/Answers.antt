use Rattle.std.proofs.Common.{rules}
use Rattle.colfind_run.proofs.program.report.Goals as goal

pub returns-clause-line : goal.returns-clause-line
returns-clause-line g c = search rules depth 6
