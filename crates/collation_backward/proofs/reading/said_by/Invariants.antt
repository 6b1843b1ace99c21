use Rattle.std.proofs.Common.{◌≡◌, ◌<◌, ◌≤◌, ℕ, List, ◌++◌, length}
use Rattle.collation_search.specs.Search.{HasSearched, sought}
use Rattle.collation_backward.specs.Backward.{last_up_to}
use Rattle.collation_backward.proofs.reading.said_by.Given as goal

-- the bytes so far were taken, and the last one of the ranges that were handed out is held
abbrev pub invariant-loop-rest : goal.invariant-loop-rest
invariant-loop-rest g l = record {
  some : 0 < l.len;
  next : 0 < l.following;
  few : l.following ≤ 4096;
  same : sought l.search ≡ sought l.fn.search;
  taken : (u : List ℕ) × (handed : List (ℕ × ℕ)) × (l.text ≡ u ++ l.rest) × HasSearched l.search u handed × (l.last ≡ last_up_to l.to handed);
}

abbrev pub decreases-loop-rest : goal.decreases-loop-rest
decreases-loop-rest g l = length l.rest
