use Rattle.std.proofs.Common.{◌≡◌, ◌+◌, ◌≤◌, ◌++◌, true, drop, length}
use Rattle.std.specs.Option.{option_to_list, ForSome}
use Rattle.collation_elements.specs.Elements.{weighted_row, after_row}
use Rattle.collation_table.specs.WellFormed.{is_lead}
use Rattle.collation_elements.specs.Items.{key_items}
use Rattle.collation_elements.specs.Weighing.{value_items}
use Rattle.collation_elements.proofs.weigher.Weigher.take.Given as goal

abbrev pub invariant-loop-e : goal.invariant-loop-e
invariant-loop-e l = record {
  strength : l.self.strength ≡ l.fn.self.strength;
  variable : l.self.variable ≡ l.fn.self.variable;
  lead : ForSome l.lead (λ e. is_lead e ≡ true);
  few : length l.items.items + length (option_to_list l.lead) ≤ 1 + l.e-index;
  items : l.items.items ++ key_items l.self.strength (option_to_list l.lead ++ weighted_row l.self.variable l.self.after_variable (drop l.e-index l.row)) ≡ value_items l.fn.self l.unit;
  after : after_row l.self.variable l.self.after_variable (drop l.e-index l.row) ≡ after_row l.fn.self.variable l.fn.self.after_variable l.unit.elements;
}
