use Rattle.std.proofs.Common.{refl}
use Rattle.std.specs.Str.{chars}
use Rattle.nfd_points.proofs.Computing.{nfd_points}
use Rattle.layer_tests.proofs.elements.worked_clusters.Goals as goal

pub returns : goal.returns
unfolding nfd_points chars
returns c = record {
  empty_text = refl;
  contraction = refl;
  contraction_boundaries = refl;
  soft_hyphen = refl;
  accent_first = refl;
  accent_boundaries = refl;
  hyphen_shifted = refl;
  hyphen_kept = refl;
}
