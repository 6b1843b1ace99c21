use Rattle.std.proofs.Common.{◌≡◌, ◌≤◌, ◌∙◌, List, [], ◌++◌, false, length, take, sym, ap, subst}
use Rattle.collation_elements.specs.declared.keys.Key.{Key}
use Rattle.collation_elements.specs.declared.keys.Item.{Item}
use Rattle.collation_elements.specs.ItemParts.{item_keys}
use Rattle.collation_elements.specs.Windows.{next_cut}
use Rattle.collation_anchored.specs.Anchored.{is_begun}
use Rattle.collation_anchored.specs.Compared.{completed_among}
use Rattle.collation_anchored.proofs.KeysSoFar.{KeysDiffer, came_on, came_apart}
use Rattle.collation_anchored.proofs.cutting.cut_units.Goals as goal

pub loop-unit-preserved : goal.loop-unit-preserved
loop-unit-preserved g c = record {
  stands = λ points h.
      let table = g.W.Weights.table c.args.table.now in
      let pattern = c.args.pattern.now in
      let before = c.loop-unit.invariant.stands points h in
      let old = c.loop-unit.progress in
      let new = c.take-alike.new.self in
      let unit = (next_cut table c.loop-unit.window.points).unit in
      let its = c.take.new.items.items in
      let e = c.take-alike.ensures in
      let ks = c.keys.ensures in
      let given = c.as_slice.ensures.value in
      let room : old.matched ≤ length c.keys.result.now = subst (λ (ps : List Key). old.matched ≤ length ps) (sym ks) before.within in
      came_on table pattern c.loop-unit.window c.next_unit.new.self c.loop-unit.weigher c.take.new.self old new points unit its before
      (c.in-Some.ensures.stands points before.units before.cut)
      (c.take.ensures.stands table unit before.units before.items c.in-Some.ensures.unit before.weighed)
      (ap (λ w. w.strength) c.take.ensures.after) (ap (λ w. w.variable) c.take.ensures.after)
      (subst (λ (ts : List Item). take new.matched pattern.keys ≡ take old.matched pattern.keys ++ item_keys ts) given
      (subst (λ (ps : List Key). take new.matched ps ≡ take old.matched ps ++ item_keys c.as_slice.result.now) ks (e.alike room c.if-not-alike.false)))
      (subst (λ (ps : List Key). new.matched ≤ length ps) ks (e.within room))
      (subst (λ (ts : List Item). new.completed ≡ completed_among pattern.keys [] (before.items ++ ts)) given
      (subst (λ (ps : List Key). new.completed ≡ completed_among ps [] (before.items ++ c.as_slice.result.now)) ks
      (e.completed before.items room (before.keys ∙ ap (take old.matched) (sym ks)) (before.completed ∙ ap (λ (ps : List Key). completed_among ps [] before.items) (sym ks)))));
  capacity = ap (λ w. w.capacity) c.in-Some.ensures.rest ∙ c.loop-unit.invariant.capacity;
  ended = ap (λ w. w.has_ended) c.in-Some.ensures.rest ∙ c.loop-unit.invariant.ended;
  last = λ open_window starts. c.in-Some.ensures.last (c.loop-unit.invariant.ended ∙ open_window) (c.loop-unit.invariant.last open_window starts);
}

pub returns-then-not-alike-clause-differs : goal.returns-then-not-alike-clause-differs
returns-then-not-alike-clause-differs g c = λ points more h ends answer.
    let table = g.W.Weights.table c.args.table.now in
    let pattern = c.args.pattern.now in
    let before = c.loop-unit.invariant.stands points h in
    let old = c.loop-unit.progress in
    let new = c.take-alike.new.self in
    let unit = (next_cut table c.loop-unit.window.points).unit in
    let its = c.take.new.items.items in
    let e = c.take-alike.ensures in
    let ks = c.keys.ensures in
    let given = c.as_slice.ensures.value in
    let room : old.matched ≤ length c.keys.result.now = subst (λ (ps : List Key). old.matched ≤ length ps) (sym ks) before.within in
    let apart : KeysDiffer table pattern new.completed (points ++ more) =
    came_apart table pattern c.loop-unit.window c.next_unit.new.self c.loop-unit.weigher c.take.new.self old new points more unit its before
    (c.in-Some.ensures.stands points before.units before.cut)
    (c.take.ensures.stands table unit before.units before.items c.in-Some.ensures.unit before.weighed)
    (ap (λ w. w.strength) c.take.ensures.after) (ap (λ w. w.variable) c.take.ensures.after)
    (λ ended. ends (sym (ap (λ w. w.has_ended) c.in-Some.ensures.rest ∙ c.loop-unit.invariant.ended) ∙ ended))
    (subst (λ (ts : List Item). is_begun pattern.keys (take old.matched pattern.keys ++ item_keys ts) ≡ false) given
    (subst (λ (ps : List Key). is_begun ps (take old.matched ps ++ item_keys c.as_slice.result.now) ≡ false) ks (e.apart room c.if-not-alike.true)))
    (subst (λ (ts : List Item). new.completed ≡ completed_among pattern.keys [] (before.items ++ ts)) given
    (subst (λ (ps : List Key). new.completed ≡ completed_among ps [] (before.items ++ c.as_slice.result.now)) ks
    (e.completed before.items room (before.keys ∙ ap (take old.matched) (sym ks)) (before.completed ∙ ap (λ (ps : List Key). completed_among ps [] before.items) (sym ks))))) in
    apart.keys

pub returns-then-not-alike-clause-completed : goal.returns-then-not-alike-clause-completed
returns-then-not-alike-clause-completed g c = λ points more h ends answer.
    let table = g.W.Weights.table c.args.table.now in
    let pattern = c.args.pattern.now in
    let before = c.loop-unit.invariant.stands points h in
    let old = c.loop-unit.progress in
    let new = c.take-alike.new.self in
    let unit = (next_cut table c.loop-unit.window.points).unit in
    let its = c.take.new.items.items in
    let e = c.take-alike.ensures in
    let ks = c.keys.ensures in
    let given = c.as_slice.ensures.value in
    let room : old.matched ≤ length c.keys.result.now = subst (λ (ps : List Key). old.matched ≤ length ps) (sym ks) before.within in
    let apart : KeysDiffer table pattern new.completed (points ++ more) =
    came_apart table pattern c.loop-unit.window c.next_unit.new.self c.loop-unit.weigher c.take.new.self old new points more unit its before
    (c.in-Some.ensures.stands points before.units before.cut)
    (c.take.ensures.stands table unit before.units before.items c.in-Some.ensures.unit before.weighed)
    (ap (λ w. w.strength) c.take.ensures.after) (ap (λ w. w.variable) c.take.ensures.after)
    (λ ended. ends (sym (ap (λ w. w.has_ended) c.in-Some.ensures.rest ∙ c.loop-unit.invariant.ended) ∙ ended))
    (subst (λ (ts : List Item). is_begun pattern.keys (take old.matched pattern.keys ++ item_keys ts) ≡ false) given
    (subst (λ (ps : List Key). is_begun ps (take old.matched ps ++ item_keys c.as_slice.result.now) ≡ false) ks (e.apart room c.if-not-alike.true)))
    (subst (λ (ts : List Item). new.completed ≡ completed_among pattern.keys [] (before.items ++ ts)) given
    (subst (λ (ps : List Key). new.completed ≡ completed_among ps [] (before.items ++ c.as_slice.result.now)) ks
    (e.completed before.items room (before.keys ∙ ap (take old.matched) (sym ks)) (before.completed ∙ ap (λ (ps : List Key). completed_among ps [] before.items) (sym ks))))) in
    apart.completed
