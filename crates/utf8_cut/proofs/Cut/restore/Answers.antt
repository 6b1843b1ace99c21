use Rattle.std.proofs.Common.{◌≡◌, ℕ, ◌-◌, ◌++◌, List, false, length, sym, ap, ◌∙◌, subst}
use Rattle.utf8_cut.specs.State.{StandsFor}
use Rattle.utf8_cut.specs.Value.{CutState}
use Rattle.utf8_cut.proofs.PushLemmas.{restored_stands}
use Rattle.utf8_cut.proofs.Cut.restore.Goals as goal

items : (c : goal.After-unwrap) → c.try_extend_from_slice.new.self.items ≡ c.args.held.now
items c = (rw c.unwrap.ensures at c.try_extend_from_slice.ensures.ok) ∙ ap (λ l. l ++ c.args.held.now) c.new-bytes.ensures

pub returns-clause-state : goal.returns-clause-state
returns-clause-state c =
    let holding : List ℕ → CutState = λ h. record { held = h; start = c.args.count - length c.args.held.now; count = c.args.count; is_bad = false } in
    ap holding (items c)

pub returns-clause-stands_for : goal.returns-clause-stands_for
returns-clause-stands_for c cut taken given s none same counted =
    let count = c.args.count in
    subst (λ h. StandsFor (record { held = h; start = count - length c.args.held.now; count = count; is_bad = false }) taken given) (sym (items c))
    (restored_stands cut taken given s none c.args.held.now count same counted)
