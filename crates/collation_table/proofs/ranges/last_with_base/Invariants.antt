use Rattle.std.proofs.Common.{◌≡◌, max, map, drop}
use Rattle.collation_table.specs.Table.{greatest}
use Rattle.collation_table.specs.WellFormed.{with_base}
use Rattle.collation_table.proofs.ranges.last_with_base.Given as goal

abbrev pub invariant-loop-range : goal.invariant-loop-range
invariant-loop-range l =
    max l.last (greatest (map (λ s. s.last) (with_base l.base (drop l.range-index l.ranges)))) ≡ max l.cp (greatest (map (λ s. s.last) (with_base l.base l.ranges)))
