use Rattle.std.proofs.Common.{◌≡◌, ◌<◌, List, ◌++◌, length, sym, ◌∙◌, ap, append_assoc, arith}
use Rattle.collation_elements.specs.declared.keys.Item.{Item}
use Rattle.collation_elements.specs.Weighing.{value_items}
use Rattle.collation_elements.proofs.CharacterLaws.{items_by, items_by-cut, after_by-cut}
use Rattle.collation_elements.proofs.character.gather.Goals as goal

pub loop-unit-preserved : goal.loop-unit-preserved
loop-unit-preserved g c =
    let T = g.W.Weights.table c.args.table.now in
    let inv = c.loop-unit.invariant in
    let w0 = c.loop-unit.weigher in
    let w1 = c.add_unit.new.weigher in
    let ps = c.loop-unit.window.points in
    let some : 0 < length ps = omega (arith, c.in-Some.ensures.fewer) in
    let left = ap (λ w. w.points) c.in-Some.ensures.rest in
    let given : List Item = c.loop-unit.gathered.items in
    let more : List Item = value_items w0 c.in-Some.unit in
    let added : c.add_unit.new.gathered.items ≡ given ++ more = c.add_unit.ensures.items c.if-not-add_unit.false in
    let rest : List Item = items_by T w1 c.next_unit.new.self.points in
    record {
      capacity = ap (λ w. w.capacity) c.in-Some.ensures.rest ∙ inv.capacity;
      ended = ap (λ w. w.has_ended) c.in-Some.ensures.rest ∙ inv.ended;
      items =
          ap (λ xs. xs ++ rest) added
          ∙ append_assoc given more rest
          ∙ ap (λ xs. given ++ xs) (sym (items_by-cut T w0 w1 ps c.next_unit.new.self.points c.in-Some.unit some c.in-Some.ensures.unit left c.add_unit.ensures.after))
          ∙ inv.items;
      after = sym (after_by-cut T w0 w1 ps c.next_unit.new.self.points c.in-Some.unit some c.in-Some.ensures.unit left c.add_unit.ensures.after) ∙ inv.after;
    }
