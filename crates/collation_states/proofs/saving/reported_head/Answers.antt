use Rattle.std.proofs.Common.{refl}
use Rattle.collation_states.proofs.saving.reported_head.Goals as goal

pub returns : goal.returns
returns c = refl
