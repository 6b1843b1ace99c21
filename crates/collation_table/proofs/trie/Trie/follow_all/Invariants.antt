-- The code points so far lead to the node, and each mapped string has its place.
use Rattle.std.proofs.Common.{◌≡◌, ℕ, ◌<◌, List, take}
use Rattle.collation_table.specs.Trie.{at, place_of, Leads, IsTrie}
use Rattle.collation_table.proofs.trie.Trie.follow_all.Given as goal

abbrev pub invariant-loop-cp : goal.invariant-loop-cp
invariant-loop-cp l = record {
  trie : IsTrie l.self;
  used : l.node < l.self.nodes;
  same : (string : List ℕ) → place_of l.self string ≡ place_of l.initial.self string;
  leads : Leads (at l.self) 0 (take l.cp-index l.cps) l.node;
}
