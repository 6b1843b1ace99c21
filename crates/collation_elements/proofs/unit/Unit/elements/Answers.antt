use Rattle.std.proofs.Common.{rules}
use Rattle.collation_elements.proofs.unit.Unit.elements.Goals as goal

pub returns-in-Some-clause-value : goal.returns-in-Some-clause-value
returns-in-Some-clause-value c = search rules depth 4
