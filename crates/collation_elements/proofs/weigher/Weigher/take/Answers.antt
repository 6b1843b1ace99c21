use Rattle.std.proofs.Common.{◌≡◌, ◌≤◌, List, [], ◌∷◌, ◌++◌, Option, Some, length, ◌∙◌, ap, refl, sym, subst, arith, rules}
use Rattle.std.proofs.lemmas.Bool.{cond_both}
use Rattle.std.proofs.lemmas.Option.{none-some}
use Rattle.std.specs.Option.{option_to_list}
use Rattle.nfd_points.specs.declared.points.Point.{Point}
use Rattle.collation_table.specs.declared.elements.Element.{Element}
use Rattle.collation_elements.specs.declared.keys.Item.{Item}
use Rattle.collation_elements.specs.declared.keys.Item.TheVariants.{ClusterStart}
use Rattle.collation_elements.specs.Items.{start_items, key_items, row_items}
use Rattle.collation_elements.specs.declared.weigher.Weigher.{Weigher}
use Rattle.collation_elements.specs.Weighing.{value_items}
use Rattle.collation_elements.specs.Elements.{after_row, ignorable, weighted_row, begins_cluster_with}
use Rattle.collation_elements.proofs.ItemLaws.{items_step, after_step, items_end-none, items_end-lead, weigher_end, stands_after}
use Rattle.collation_elements.proofs.weigher.Weigher.take.Goals as goal

pub loop-e-preserved : goal.loop-e-preserved
loop-e-preserved c =
    let w0 = c.loop-e.self in
    let w1 = c.weigh-weighted.new.self in
    let row = c.elements-row.result.now in
    let inv = c.loop-e.invariant in
    record {
      strength = ap (λ (w : Weigher). w.strength) c.weigh-weighted.ensures.after ∙ inv.strength;
      variable = ap (λ (w : Weigher). w.variable) c.weigh-weighted.ensures.after ∙ inv.variable;
      lead = c.add_keys-lead.ensures.lead;
      few = omega (arith, c.add_keys-lead.ensures.few);
      items = items_step w0 w1 row c.loop-e.e-index ignorable c.weigh-weighted.result c.loop-e.items.items c.add_keys-lead.new.items.items (value_items c.args.self.now c.args.unit.now) c.loop-e.lead c.add_keys-lead.result c.loop-e-test.true c.weigh-weighted.ensures.element c.weigh-weighted.ensures.after c.add_keys-lead.ensures.keys inv.items;
      after = after_step w0 w1 row c.loop-e.e-index ignorable (after_row c.args.self.now.variable c.args.self.now.after_variable c.args.unit.now.elements) c.loop-e-test.true c.weigh-weighted.ensures.after inv.after;
    }

pub returns-in-Some-clause-after : goal.returns-in-Some-clause-after
returns-in-Some-clause-after c =
    let inv = c.loop-e.invariant in
    weigher_end c.args.self.now c.loop-e.self c.elements-row.result.now c.args.unit.now c.loop-e.e-index c.loop-e-test.false inv.strength inv.variable inv.after

pub returns-in-Some-clause-items : goal.returns-in-Some-clause-items
returns-in-Some-clause-items c =
    items_end-lead c.loop-e.self c.elements-row.result.now c.loop-e.e-index c.loop-e.items.items c.add_key.new.items.items (value_items c.args.self.now c.args.unit.now) c.loop-e.lead c.in-Some.lead c.loop-e-test.false c.in-Some.is
    c.add_key.ensures.keys c.loop-e.invariant.items

pub returns-in-Some-clause-few : goal.returns-in-Some-clause-few
returns-in-Some-clause-few c =
    omega (arith, c.add_key.ensures.few, c.loop-e.invariant.few, ap length c.elements-row.ensures.value, ap (λ (o : Option Element). length (option_to_list o)) c.in-Some.is)

pub returns-in-Some-clause-stands : goal.returns-in-Some-clause-stands
returns-in-Some-clause-stands c =
    stands_after c.args.self.now c.loop-e.self c.args.unit.now c.add_key.new.items.items (returns-in-Some-clause-after c) (returns-in-Some-clause-items c)

pub returns-in_default-clause-after : goal.returns-in_default-clause-after
returns-in_default-clause-after c =
    let inv = c.loop-e.invariant in
    weigher_end c.args.self.now c.loop-e.self c.elements-row.result.now c.args.unit.now c.loop-e.e-index c.loop-e-test.false inv.strength inv.variable inv.after

pub returns-in_default-clause-items : goal.returns-in_default-clause-items
returns-in_default-clause-items c =
    items_end-none c.loop-e.self c.elements-row.result.now c.loop-e.e-index c.loop-e.items.items (value_items c.args.self.now c.args.unit.now) c.loop-e.lead c.loop-e-test.false c.in_default.is c.loop-e.invariant.items

pub returns-in_default-clause-few : goal.returns-in_default-clause-few
returns-in_default-clause-few c = omega (arith, c.loop-e.invariant.few, ap length c.elements-row.ensures.value)

pub returns-in_default-clause-stands : goal.returns-in_default-clause-stands
returns-in_default-clause-stands c =
    stands_after c.args.self.now c.loop-e.self c.args.unit.now c.loop-e.items.items (returns-in_default-clause-after c) (returns-in_default-clause-items c)

few_begun : (p : Point) (row : List Element) → length (start_items (Some p) row) ≤ 1
few_begun p row = cond_both (begins_cluster_with p row) (ClusterStart p.offset ∷ []) [] (λ (l : List Item). length l ≤ 1) (λ _. omega arith) (λ _. omega arith)

pub loop-e-init : goal.loop-e-init
loop-e-init c =
    let w = c.args.self.now in
    let p : Point = c.args.unit.now.first_point in
    let row : List Element = c.elements-row.result.now in
    let begun : c.if-first_point.items.items ≡ start_items (Some p) row = search rules depth 4 in
    record {
      after = ap (after_row w.variable w.after_variable) c.elements-row.ensures.value;
      strength = refl;
      variable = refl;
      lead = λ e none. absurd (none-some e none);
      few = let few : length c.if-first_point.items.items ≤ 1 = subst (λ l. length l ≤ 1) (sym begun) (few_begun p row) in omega arith;
      items = ap (λ l. l ++ key_items w.strength (weighted_row w.variable w.after_variable row)) begun
          ∙ ap (row_items w.strength w.variable w.after_variable (Some p)) c.elements-row.ensures.value;
    }
