-- The parts are the code point's NFD.
use Rattle.std.proofs.Common.{◌∙◌, sym, ap₂, bytes_eq}
use Rattle.nfd_points.proofs.DecompositionLemmas.{decomposition-decompose}
use Rattle.nfd_points.proofs.points.Point.is_decomposed.Goals as goal

pub returns : goal.returns
returns c = c.eq.ensures ∙ ap₂ (λ xs ys. bytes_eq xs ys) (c.decomposition.ensures.value ∙ sym (decomposition-decompose c.args.c)) c.as_slice.ensures
