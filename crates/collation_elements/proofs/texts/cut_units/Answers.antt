use Rattle.std.proofs.Common.{◌≡◌, ◌∙◌, List, [], ◌∷◌, ◌++◌, sym, ap, subst}
use Rattle.collation_elements.specs.declared.keys.Item.{Item}
use Rattle.collation_elements.specs.Weighing.{WeigherStandsFor}
use Rattle.collation_elements.specs.Windows.{next_cut}
use Rattle.collation_elements.proofs.texts.cut_units.Goals as goal

pub loop-unit-preserved : goal.loop-unit-preserved
loop-unit-preserved g c = record {
  stands = λ taken h.
      let table = g.W.Weights.table c.args.table.now in
      let before = c.loop-unit.invariant.stands taken h in
      let unit = (next_cut table c.loop-unit.window.points).unit in
      let weighed = c.take.ensures.stands table unit before.units c.loop-unit.items.items c.in-Some.ensures.unit before.weighed in
      let listed : c.loop-unit.items.items ++ c.take.new.items.items ≡ c.extend_from_slice.new.self.items =
      sym (c.in_ok-extend_from_slice.ensures.items ∙ ap (λ more. c.loop-unit.items.items ++ more) c.as_slice.ensures.value) in
      record {
        units = before.units ++ unit ∷ [];
        cut = c.in-Some.ensures.stands taken before.units before.cut;
        weighed = subst (λ (given : List Item). WeigherStandsFor table c.take.new.self (before.units ++ unit ∷ []) given) listed weighed;
      };
  capacity = ap (λ w. w.capacity) c.in-Some.ensures.rest ∙ c.loop-unit.invariant.capacity;
  ended = ap (λ w. w.has_ended) c.in-Some.ensures.rest ∙ c.loop-unit.invariant.ended;
  settings = record {
    strength = ap (λ w. w.strength) c.take.ensures.after ∙ c.loop-unit.invariant.settings.strength;
    variable = ap (λ w. w.variable) c.take.ensures.after ∙ c.loop-unit.invariant.settings.variable;
  };
  last = λ open_window starts. c.in-Some.ensures.last (c.loop-unit.invariant.ended ∙ open_window) (c.loop-unit.invariant.last open_window starts);
}
