use Rattle.std.proofs.Common.{◌≡◌, drop, false}
use Rattle.collation_table.specs.WellFormed.{breaks_pairs}
use Rattle.collation_table.proofs.well_formed.breaks_pair_rule.Given as goal

abbrev pub invariant-loop-element : goal.invariant-loop-element
invariant-loop-element l = breaks_pairs l.after_lead (drop l.element-index l.row) ≡ breaks_pairs false l.row
