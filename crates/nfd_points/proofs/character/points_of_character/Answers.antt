use Rattle.std.proofs.Common.{[], ◌∷◌, ◌++◌, true, length, sym, ap, ◌∙◌, arith}
use Rattle.nfd_points.specs.Points.{points_at}
use Rattle.nfd_points.proofs.DecompositionLemmas.{decomposition-decompose, length-decomposition}
use Rattle.nfd_points.proofs.PointsLemmas.{points_of-plain}
use Rattle.nfd_points.proofs.character.points_of_character.Goals as goal

pub returns-then-is_plain-clause-value : goal.returns-then-is_plain-clause-value
returns-then-is_plain-clause-value c =
    c.push.ensures.items ∙ ap (λ ps. ps ++ c.plain.result ∷ []) c.new-points.ensures ∙ ap (λ p. p ∷ []) c.plain.ensures
    ∙ sym (points_of-plain c.args.offset c.args.c (c.is_plain.ensures.plain c.if-is_plain.true))

pub points_of_parts-requires : goal.points_of_parts-requires
points_of_parts-requires c =
    omega (arith, ap length (c.decomposition.ensures.value ∙ sym (decomposition-decompose c.args.c)), length-decomposition c.args.c)

pub returns-clause-value : goal.returns-clause-value
returns-clause-value c =
    c.points_of_parts.ensures.value ∙ ap (points_at c.args.offset true) (c.decomposition.ensures.value ∙ sym (decomposition-decompose c.args.c))
