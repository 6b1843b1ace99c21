use Rattle.std.proofs.Common.{◌≡◌, drop, fold}
use Rattle.collation_table.specs.Bounds.{higher_second}
use Rattle.collation_table.proofs.well_formed.greatest_second.Given as goal

abbrev pub invariant-loop-element : goal.invariant-loop-element
invariant-loop-element l = fold higher_second l.greatest (drop l.element-index l.row) ≡ fold higher_second l.most l.row
