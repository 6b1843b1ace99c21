use Rattle.std.proofs.Common.{◌≡◌, drop, fold}
use Rattle.collation_table.specs.Bounds.{higher_third}
use Rattle.collation_table.proofs.well_formed.greatest_third.Given as goal

abbrev pub invariant-loop-element : goal.invariant-loop-element
invariant-loop-element l = fold higher_third l.greatest (drop l.element-index l.row) ≡ fold higher_third l.most l.row
