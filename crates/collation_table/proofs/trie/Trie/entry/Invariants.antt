-- What is after the entry with the code points that are left, and with any more, is the place of the mapped string.
use Rattle.std.proofs.Common.{◌≡◌, List, ℕ, ◌++◌, drop}
use Rattle.collation_table.specs.Trie.{at, seek, place_of}
use Rattle.collation_table.proofs.trie.Trie.entry.Given as goal

abbrev pub invariant-loop-cp : goal.invariant-loop-cp
invariant-loop-cp l = (more : List ℕ) → seek (at l.self) l.entry (drop l.cp-index l.rest ++ more) ≡ place_of l.self (l.fn.string ++ more)
