-- The table of the keys so far, and the border that comes next.
use Rattle.std.proofs.Common.{◌≡◌, length, take, drop}
use Rattle.collation_pattern.specs.Border.{border}
use Rattle.collation_pattern.specs.Borders.{AreBorders}
use Rattle.collation_pattern.proofs.borders.borders_of.Given as goal

abbrev pub invariant-loop-i : goal.invariant-loop-i
invariant-loop-i l = record {
  len : length l.borders.items ≡ l.i;
  borders : AreBorders l.keys l.borders.items;
  state : l.state ≡ border l.keys (drop 1 (take l.i l.keys));
}
