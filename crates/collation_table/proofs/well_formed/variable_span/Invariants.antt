use Rattle.std.proofs.Common.{◌≡◌, drop, fold}
use Rattle.collation_table.specs.Bounds.{wider_span}
use Rattle.collation_table.proofs.well_formed.variable_span.Given as goal

abbrev pub invariant-loop-element : goal.invariant-loop-element
invariant-loop-element l = fold wider_span l.widest (drop l.element-index l.row) ≡ fold wider_span l.fn.span l.row
