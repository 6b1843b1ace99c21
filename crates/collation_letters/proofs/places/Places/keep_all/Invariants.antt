use Rattle.std.proofs.Common.{All}
use Rattle.collation_table.specs.Table.{TableMap}
use Rattle.collation_pattern.specs.Compiled.{Compiled}
use Rattle.collation_letters.specs.Store.{AreKept, IsKept}
use Rattle.collation_letters.proofs.places.Places.keep_all.Given as goal

-- what is kept so far is right, where that of both places is
abbrev pub invariant-loop-kept : goal.invariant-loop-kept
invariant-loop-kept l =
    (table : TableMap) (pattern : Compiled) → AreKept table pattern l.fn.self
    → AreKept table pattern l.fn.others → AreKept table pattern l.self × All (IsKept table pattern) l.kept-items
