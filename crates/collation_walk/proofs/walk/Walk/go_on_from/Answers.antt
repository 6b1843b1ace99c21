use Rattle.std.proofs.Common.{refl}
use Rattle.collation_walk.proofs.walk.Walk.go_on_from.Goals as goal

pub returns-clause-last_end : goal.returns-clause-last_end
returns-clause-last_end c = refl
