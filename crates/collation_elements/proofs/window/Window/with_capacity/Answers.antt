use Rattle.std.proofs.Common.{rules}
use Rattle.collation_elements.proofs.window.Window.with_capacity.Goals as goal

pub returns-clause-empty : goal.returns-clause-empty
returns-clause-empty c = search rules depth 4
