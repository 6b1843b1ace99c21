-- The rows so far whose strings the tailor does not map.
use Rattle.std.proofs.Common.{◌≡◌, not, filter, take}
use Rattle.collation_table.specs.Table.{is_mapped}
use Rattle.collation_table.proofs.rows.Rows.without.Given as goal

abbrev pub invariant-loop-number : goal.invariant-loop-number
invariant-loop-number g l = l.kept.rows ≡ filter (λ row. not (is_mapped l.tailor row.0)) (take l.number l.fn.self.rows)
