use Rattle.std.proofs.Common.{◌≡◌, ◌++◌, List, sym, ap, ◌∙◌, subst}
use Rattle.nfd_points.specs.declared.points.Point.{Point}
use Rattle.nfd_points.specs.Reordering.{IsHeld, HasReordered}
use Rattle.nfd_points.proofs.reordering.Reorder.restore.Goals as goal

items : (c : goal.After-unwrap) → c.try_extend_from_slice.new.self.items ≡ c.args.waiting.now
items c = (rw c.unwrap.ensures at c.try_extend_from_slice.ensures.ok) ∙ ap (λ l. l ++ c.args.waiting.now) c.new-held.ensures

pub invariant_of-result : goal.invariant_of-result
invariant_of-result c = subst IsHeld (sym (items c)) c.requires

pub returns-clause-held : goal.returns-clause-held
returns-clause-held c = items c

pub returns-clause-stands_for : goal.returns-clause-stands_for
returns-clause-stands_for c = λ w taken given stands same.
    subst (λ (held : List Point). HasReordered (record { held = held }) taken given) (same ∙ sym (items c)) stands
