use Rattle.std.proofs.Common.{◌≡◌, ◌≤◌, ◌<◌, ℕ, List, [], ◌++◌, length}
use Rattle.collation_search.specs.Search.{HasSearched, sought}
use Rattle.collation_search.proofs.search.Search.first_of.Given as goal

-- the bytes so far were taken, and no range became known
abbrev pub invariant-loop-rest : goal.invariant-loop-rest
invariant-loop-rest g l = record {
  some : 0 < l.len;
  few : l.len ≤ 4096;
  same : sought l.self ≡ sought l.fn.self;
  taken : (u : List ℕ) × (l.text ≡ u ++ l.rest) × HasSearched l.self u [];
}

abbrev pub decreases-loop-rest : goal.decreases-loop-rest
decreases-loop-rest g l = length l.rest
