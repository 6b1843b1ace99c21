use Rattle.std.specs.List.{FoldsTo}
use Rattle.std.proofs.Common.{◌≡◌, ℕ, ◌*◌, ◌≤◌, List, [], take}
use Rattle.collation_search.specs.Pieces.{joined, most_records_after, most_words, AreUnderWay, HasStates}
use Rattle.collation_search.specs.Saving.{most_records}
use Rattle.collation_matches.specs.Sought.{Sought}
use Rattle.collation_search.proofs.pieces.search_in_pieces.Given as goal

-- the pieces so far were taken, and the sink was called for the ranges so far
abbrev pub invariant-loop-piece : goal.invariant-loop-piece
invariant-loop-piece g l =
    let s : Sought = record { table = g.W.Weights.table l.table; pattern = l.pattern; select = l.fn.select } in
    goal.F-IsAlwaysCallable g l.sink
    × (l.most_records ≤ most_records s)
    × ((found : List (ℕ × ℕ)) × FoldsTo (λ f range t. goal.F-step g f range.0 range.1 tt t) l.fn.sink found l.sink
    × AreUnderWay g.W.Weights s l.words.items (joined (take l.piece-index l.pieces)) found)
    × ((states : List (List ℕ)) × HasStates g.W.Weights s (take l.piece-index l.pieces) states l.words.items × (4 * l.most_records ≡ most_words states))
    × (l.most_records ≡ most_records_after s [] (take l.piece-index l.pieces))
