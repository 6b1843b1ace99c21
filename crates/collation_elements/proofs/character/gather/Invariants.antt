use Rattle.std.proofs.Common.{◌≡◌, ◌++◌, length}
use Rattle.collation_elements.specs.Units.{units}
use Rattle.collation_elements.specs.Items.{items}
use Rattle.collation_elements.specs.Weighing.{after_units}
use Rattle.collation_elements.proofs.character.gather.Given as goal

-- what was gathered, and then the items of what the window holds, are those of what it held
abbrev pub invariant-loop-unit : goal.invariant-loop-unit
invariant-loop-unit g l = record {
  capacity : l.window.capacity ≡ l.fn.window.capacity;
  ended : l.window.has_ended ≡ l.fn.window.has_ended;
  items : l.gathered.items ++ items (g.W.Weights.table l.table) l.weigher.strength l.weigher.variable l.weigher.after_variable (units (g.W.Weights.table l.table) l.window.points)
      ≡ items (g.W.Weights.table l.table) l.fn.weigher.strength l.fn.weigher.variable l.fn.weigher.after_variable (units (g.W.Weights.table l.table) l.fn.window.points);
  after : after_units (g.W.Weights.table l.table) l.weigher.variable l.weigher.after_variable (units (g.W.Weights.table l.table) l.window.points)
      ≡ after_units (g.W.Weights.table l.table) l.fn.weigher.variable l.fn.weigher.after_variable (units (g.W.Weights.table l.table) l.fn.window.points);
}

abbrev pub decreases-loop-unit : goal.decreases-loop-unit
decreases-loop-unit g l = length l.window.points
