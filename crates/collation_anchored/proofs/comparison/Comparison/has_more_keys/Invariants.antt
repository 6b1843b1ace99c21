-- the characters so far were taken, and the others are left
use Rattle.std.proofs.Common.{◌≡◌, ◌≤◌, ℕ, List, ◌++◌, IsUtf8, chars}
use Rattle.std.specs.Str.Iter.{chars_rest}
use Rattle.nfd_points.specs.Points.{byte_len}
use Rattle.collation_table.specs.Table.{longest_mapped}
use Rattle.collation_anchored.specs.Counted.{HasCounted}
use Rattle.collation_anchored.proofs.comparison.Comparison.has_more_keys.Given as goal

abbrev pub invariant-loop-c : goal.invariant-loop-c
invariant-loop-c g l = record {
  taken : (taken : List ℕ) × HasCounted (g.W.Weights.table l.table) l.pattern l.self l.keys taken × (l.offset ≡ byte_len taken) × (chars l.text ≡ taken ++ chars (chars_rest l.c-iterator));
  utf8 : IsUtf8 (chars_rest l.c-iterator);
  few : l.keys ≤ l.most;
  longest : l.self.longest_key ≡ longest_mapped (g.W.Weights.table l.table);
  same : l.self.longest_key ≡ l.fn.self.longest_key;
}
