use Rattle.std.proofs.Common.{◌≡◌, ◌≤◌, ◌<◌, ℕ, List, ◌++◌, length}
use Rattle.std.specs.List.{FoldsTo}
use Rattle.collation_search.specs.Search.{HasSearched, sought}
use Rattle.collation_parts.specs.Handing.{handed_on}
use Rattle.collation_parts.proofs.part.search_rest.Given as goal

-- the bytes so far were taken, and the ranges that became known were handed on
abbrev pub invariant-loop-rest : goal.invariant-loop-rest
invariant-loop-rest g l = record {
  some : 0 < l.len;
  more : 0 < l.behind;
  few : l.behind ≤ 4096;
  callable : goal.F-IsAlwaysCallable g l.sink;
  same : sought l.search ≡ sought l.fn.search;
  taken : (u : List ℕ) × (handed : List (ℕ × ℕ)) × (l.text ≡ u ++ l.rest) × HasSearched l.search u handed
      × FoldsTo (λ f range t. goal.F-step g f range.0 range.1 tt t) l.fn.sink (handed_on l.part.from l.part.len handed) l.sink;
}

abbrev pub decreases-loop-rest : goal.decreases-loop-rest
decreases-loop-rest g l = length l.rest
