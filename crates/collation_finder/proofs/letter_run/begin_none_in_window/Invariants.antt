use Rattle.std.proofs.Common.{take, All}
use Rattle.collation_table.specs.Table.{BeginsNoLongerString}
use Rattle.collation_finder.proofs.letter_run.begin_none_in_window.Given as goal

-- the points so far begin no longer string
abbrev pub invariant-loop-i : goal.invariant-loop-i
invariant-loop-i g l = All (λ p. BeginsNoLongerString (g.W.Weights.table l.table) p.cp) (take l.i l.window.points)
