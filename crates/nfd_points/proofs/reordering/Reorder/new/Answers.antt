use Rattle.std.proofs.Common.{sym, subst}
use Rattle.nfd_points.specs.Reordering.{IsHeld}
use Rattle.nfd_points.proofs.ReorderingLemmas.{IsHeld-nil, HasReordered-nil}
use Rattle.nfd_points.proofs.reordering.Reorder.new.Goals as goal

pub invariant_of-result : goal.invariant_of-result
invariant_of-result c = subst IsHeld (sym c.new.ensures) IsHeld-nil

pub returns-clause-starts : goal.returns-clause-starts
returns-clause-starts c = HasReordered-nil _ c.new.ensures
