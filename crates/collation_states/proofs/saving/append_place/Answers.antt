use Rattle.std.proofs.Common.{rules}
use Rattle.collation_states.proofs.saving.append_place.Goals as goal

pub returns-clause-saved : goal.returns-clause-saved
returns-clause-saved c = search rules depth 6
