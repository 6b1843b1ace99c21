-- The answers from a boundary on, at a safe offset.
use Rattle.collation_safe.proofs.SafeOffsets.{safe-answers}
use Rattle.collation_safe.proofs.laws.answers_from_safe_offsets.Goals as goal

pub returns : goal.returns
returns c = safe-answers c.safe_offsets_are_boundaries.ensures.places c.matches_from_a_boundary.ensures.answers
