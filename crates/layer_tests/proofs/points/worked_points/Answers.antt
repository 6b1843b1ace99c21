use Rattle.std.proofs.Common.{refl}
use Rattle.nfd_points.proofs.Computing.{nfd_points}
use Rattle.layer_tests.proofs.points.worked_points.Goals as goal

pub returns : goal.returns
unfolding nfd_points
returns c = record {
  composed = refl;
  decomposed = refl;
  hangul = refl;
  two_non_starters = refl;
  reordered = refl;
  surrogate = refl;
  long_run = refl;
  full_run = refl;
}
