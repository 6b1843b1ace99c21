use Rattle.std.proofs.Common.{◌≡◌, take}
use Rattle.collation_table.specs.Table.{longest_mapped}
use Rattle.collation_anchored.specs.Comparing.{HasComparedBytes}
use Rattle.collation_anchored.proofs.comparison.Comparison.read.Given as goal

-- the bytes so far were taken, and the keys of their units are the first of the pattern's
abbrev pub invariant-loop-byte : goal.invariant-loop-byte
invariant-loop-byte g l = record {
  taken : HasComparedBytes (g.W.Weights.table l.table) l.pattern l.self (take l.byte-index l.text);
  longest : l.self.longest_key ≡ longest_mapped (g.W.Weights.table l.table);
  same : l.self.longest_key ≡ l.fn.self.longest_key;
}
