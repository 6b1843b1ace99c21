use Rattle.std.proofs.Common.{rules}
use Rattle.nfd_points.proofs.points.Point.new.Goals as goal

pub returns-clause-value : goal.returns-clause-value
returns-clause-value c = search rules depth 4

pub returns-clause-sound : goal.returns-clause-sound
returns-clause-sound c = search rules depth 4
