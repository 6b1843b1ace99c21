use Rattle.std.proofs.Common.{rules}
use Rattle.collation_elements.proofs.window.Window.clear.Goals as goal

pub returns-clause-empty : goal.returns-clause-empty
returns-clause-empty c = search rules depth 4

pub returns-clause-stands : goal.returns-clause-stands
returns-clause-stands c = search rules depth 4
