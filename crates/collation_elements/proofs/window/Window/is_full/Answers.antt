use Rattle.std.proofs.Common.{rules}
use Rattle.collation_elements.proofs.window.Window.is_full.Goals as goal

pub returns-clause-full : goal.returns-clause-full
returns-clause-full c = search rules depth 4
