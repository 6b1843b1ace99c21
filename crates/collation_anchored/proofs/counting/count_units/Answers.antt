use Rattle.std.proofs.Common.{◌≡◌, ◌+◌, ◌<◌, ◌∙◌, List, length, sym, ap, subst}
use Rattle.collation_elements.specs.declared.keys.Item.{Item}
use Rattle.collation_elements.specs.ItemParts.{item_keys}
use Rattle.collation_elements.specs.Windows.{next_cut}
use Rattle.collation_anchored.proofs.CountedKeys.{counted_on, counted_more}
use Rattle.collation_anchored.proofs.counting.count_units.Goals as goal

pub loop-unit-preserved : goal.loop-unit-preserved
loop-unit-preserved g c = record {
  within = c.count-more.ensures.within;
  stands = λ pattern points h.
      let table = g.W.Weights.table c.args.table.now in
      let before = c.loop-unit.invariant.stands pattern points h in
      let old = c.loop-unit.keys in
      let new = c.count-more.new.keys in
      let unit = (next_cut table c.loop-unit.window.points).unit in
      let its = c.take.new.items.items in
      let given = c.as_slice.ensures.value in
      counted_on table pattern c.loop-unit.window c.next_unit.new.self c.loop-unit.weigher c.take.new.self old points unit its before
      (c.in-Some.ensures.stands points before.units before.cut)
      (c.take.ensures.stands table unit before.units before.items c.in-Some.ensures.unit before.weighed)
      (ap (λ w. w.strength) c.take.ensures.after) (ap (λ w. w.variable) c.take.ensures.after)
      new (subst (λ (ts : List Item). new ≡ old + length (item_keys ts)) given (c.count-more.ensures.all c.if-more.false));
  capacity = ap (λ w. w.capacity) c.in-Some.ensures.rest ∙ c.loop-unit.invariant.capacity;
  ended = ap (λ w. w.has_ended) c.in-Some.ensures.rest ∙ c.loop-unit.invariant.ended;
  last = λ open_window starts. c.in-Some.ensures.last (c.loop-unit.invariant.ended ∙ open_window) (c.loop-unit.invariant.last open_window starts);
}

pub returns-then-more-clause-more : goal.returns-then-more-clause-more
returns-then-more-clause-more g c = λ pattern points more h ends is.
    let table = g.W.Weights.table c.args.table.now in
    let before = c.loop-unit.invariant.stands pattern points h in
    let old = c.loop-unit.keys in
    let most = c.args.most in
    let unit = (next_cut table c.loop-unit.window.points).unit in
    let its = c.take.new.items.items in
    let given = c.as_slice.ensures.value in
    counted_more table pattern c.loop-unit.window c.next_unit.new.self c.loop-unit.weigher c.take.new.self old points unit its before
    (c.in-Some.ensures.stands points before.units before.cut)
    (c.take.ensures.stands table unit before.units before.items c.in-Some.ensures.unit before.weighed)
    (ap (λ w. w.strength) c.take.ensures.after) (ap (λ w. w.variable) c.take.ensures.after)
    more most (λ ended. ends (sym (ap (λ w. w.has_ended) c.in-Some.ensures.rest ∙ c.loop-unit.invariant.ended) ∙ ended))
    (subst (λ (ts : List Item). most < old + length (item_keys ts)) given (c.count-more.ensures.more c.if-more.true))
