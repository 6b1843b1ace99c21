use Rattle.std.proofs.Common.{rules}
use Rattle.collation_elements.proofs.window.Window.point.Goals as goal

pub returns : goal.returns
returns c = search rules depth 4
