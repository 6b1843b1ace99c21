use Rattle.std.proofs.Common.{◌≡◌, ◌≤◌, min, drop}
use Rattle.collation_table.specs.Table.{first_with_base}
use Rattle.collation_table.proofs.ranges.first_with_base.Given as goal

abbrev pub invariant-loop-range : goal.invariant-loop-range
invariant-loop-range l = record {
  below : l.first ≤ l.cp;
  smallest : min l.first (first_with_base l.base l.cp (drop l.range-index l.ranges)) ≡ first_with_base l.base l.cp l.ranges;
}
