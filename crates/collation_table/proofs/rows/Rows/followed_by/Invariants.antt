-- The rows, and after them those of the tailor so far.
use Rattle.std.proofs.Common.{◌≡◌, ◌++◌, take}
use Rattle.collation_table.proofs.rows.Rows.followed_by.Given as goal

abbrev pub invariant-loop-number : goal.invariant-loop-number
invariant-loop-number g l = l.rows.rows ≡ l.fn.self.rows ++ take l.number l.tailor.rows
