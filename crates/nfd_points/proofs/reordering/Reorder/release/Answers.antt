use Rattle.std.proofs.Common.{sym, subst}
use Rattle.nfd_points.specs.Reordering.{IsHeld}
use Rattle.nfd_points.proofs.ReorderingLemmas.{IsHeld-nil}
use Rattle.nfd_points.proofs.reordering.Reorder.release.Goals as goal

pub invariant_of-self : goal.invariant_of-self
invariant_of-self c = subst IsHeld (sym c.clear.ensures) IsHeld-nil
