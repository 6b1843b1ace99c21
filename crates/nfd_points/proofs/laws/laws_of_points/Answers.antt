use Rattle.nfd_points.proofs.PointsLemmas.{code_points-points, IsSoundPoint-points, byte_len-append, byte_len-encode, points_from-append, points_from-shift, points-parts, below-points, decomposed-points}
use Rattle.std.proofs.Common.{arith}
use Rattle.std.proofs.Math.Utf8.{low_scalar}
use Rattle.nfd_points.proofs.PushLemmas.{ascii-sound}
use Rattle.nfd_points.proofs.CutLemmas.{texts-cut}
use Rattle.nfd_points.proofs.laws.laws_of_points.Goals as goal

pub returns-clause-nfd : goal.returns-clause-nfd
returns-clause-nfd c = code_points-points

pub returns-clause-sound : goal.returns-clause-sound
returns-clause-sound c = IsSoundPoint-points

pub returns-clause-decomposed : goal.returns-clause-decomposed
returns-clause-decomposed c = decomposed-points

pub returns-clause-ascii : goal.returns-clause-ascii
returns-clause-ascii c = λ start code_point low. ascii-sound code_point start (low_scalar code_point (omega arith)) low

pub returns-clause-bytes : goal.returns-clause-bytes
returns-clause-bytes c = byte_len-encode

pub returns-clause-parts : goal.returns-clause-parts
returns-clause-parts c = points_from-append

pub returns-clause-shifted : goal.returns-clause-shifted
returns-clause-shifted c = points_from-shift

pub returns-clause-texts : goal.returns-clause-texts
returns-clause-texts c = points-parts

pub returns-clause-bytes_of_parts : goal.returns-clause-bytes_of_parts
returns-clause-bytes_of_parts c = byte_len-append

pub returns-clause-cuts : goal.returns-clause-cuts
returns-clause-cuts c = texts-cut

pub returns-clause-offsets : goal.returns-clause-offsets
returns-clause-offsets c = below-points
