-- What passes by text holds of a table and a pattern.
use Rattle.std.specs.Option.{ForSome}
use Rattle.collation_table.specs.Table.{TableMap}
use Rattle.collation_pattern.specs.Compiled.{Compiled}
use Rattle.collation_skip.specs.declared.skip.Skip.{Skip}
use Rattle.collation_skip.specs.Blocks.{AreBlocksRight}
use Rattle.collation_skip.specs.Rows.{AreRowsRight}
use Rattle.collation_skip.specs.TwoBytes.{AreSetsRight}

-- the moves of the automaton, the classes of ASCII and the sets of bytes are right
abbrev pub IsSkipRight : TableMap → Compiled → Skip → Type 0
IsSkipRight table pattern skip = AreRowsRight table pattern skip.automaton × AreBlocksRight table pattern skip.blocks × ForSome skip.sets (AreSetsRight table pattern)
