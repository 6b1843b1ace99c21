use Rattle.std.proofs.Common.{take, All}
use Rattle.collation_table.specs.Table.{BeginsNoLongerString}
use Rattle.collation_finder.proofs.letter_run.begin_none.Given as goal

-- the points so far begin no longer string
abbrev pub invariant-loop-point : goal.invariant-loop-point
invariant-loop-point g l = All (λ p. BeginsNoLongerString (g.W.Weights.table l.table) p.cp) (take l.point-index l.points)
