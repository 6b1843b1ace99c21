-- The mapped strings that are left break the condition exactly where those of the whole table do.
use Rattle.std.proofs.Common.{◌≡◌, drop}
use Rattle.std.specs.List.{list_any}
use Rattle.collation_table.specs.Entries.{rows_at}
use Rattle.collation_table.specs.WellFormed.{lacks_prefix, breaks_wf5}
use Rattle.collation_table.proofs.rows.Rows.breaks_wf5.Given as goal

abbrev pub invariant-loop-places : goal.invariant-loop-places
invariant-loop-places g l = list_any (λ row. lacks_prefix l.self row.0) (rows_at l.self-inside.points.items l.self-inside.elements.items (drop l.places-index l.self-inside.places.items)) ≡ breaks_wf5 l.self
