-- The entry is that after the code points so far, and the longest mapped string is the longest among their prefixes.
use Rattle.std.proofs.Common.{◌≡◌, ℕ, ◌+◌, ◌≤◌, List, ◌++◌, take, is_some}
use Rattle.collation_table.specs.Table.{TableMap, is_mapped, longest_prefix_within}
use Rattle.collation_table.specs.Trie.{at, seek, place_of}
use Rattle.collation_table.proofs.trie.Trie.longest.Given as goal

abbrev pub invariant-loop-cp : goal.invariant-loop-cp
invariant-loop-cp l = record {
  counted : l.length ≡ l.cp-index + 1;
  entry : (q : List ℕ) → place_of l.self (take l.length l.fn.points ++ q) ≡ seek (at l.self) l.entry q;
  longest : (T : TableMap) → ((string : List ℕ) → is_mapped T string ≡ is_some (place_of l.self string)) → longest_prefix_within T l.fn.points l.length ≡ l.longest;
  small : l.longest ≤ l.length;
}
