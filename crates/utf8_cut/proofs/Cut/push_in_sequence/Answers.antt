use Rattle.std.proofs.Common.{◌++◌, ◌∷◌, [], ap, ◌∙◌, subst}
use Rattle.utf8_cut.specs.Sequences.{IsIllFormed}
use Rattle.utf8_cut.specs.Value.{CutState}
use Rattle.utf8_cut.proofs.Cut.push_in_sequence.Goals as goal

pub returns-in-IllFormed-clause-pushed : goal.returns-in-IllFormed-clause-pushed
returns-in-IllFormed-clause-pushed c = (
  ap (λ (cut : CutState). cut.start) c.self.view_is,
  λ _. subst (λ held. IsIllFormed (held ++ c.args.byte ∷ [])) (c.deref.ensures.0 ∙ ap (λ (cut : CutState). cut.held) c.self.view_is) c.in-IllFormed.ensures,
)
