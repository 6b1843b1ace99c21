use Rattle.std.proofs.Common.{◌≡◌, ◌-◌, ◌≤◌, ◌^◌, ℕ, List, [], length, false}
use Rattle.collation_search.specs.Search.{HasSearched, sought}
use Rattle.colfind_io.specs.Devices.{after_piece}
use Rattle.colfind_io.specs.Gathering.{Prints}
use Rattle.colfind_run.proofs.texts.search_text.Given as goal

-- the bytes so far were searched, and the ranges handed out were printed; no line waits
abbrev pub invariant-loop-count : goal.invariant-loop-count
invariant-loop-count g l =
    (g.R.Source.failures l.reader ≡ g.R.Source.failures l.fn.reader)
    × (sought l.search ≡ sought l.fn.search)
    × ((l.lines.failed ≡ false) × (l.lines.waiting.bytes ≡ []))
    × (l.taken ≤ 2 ^ 62)
    × ((bytes : List ℕ) × (handed : List (ℕ × ℕ)) × HasSearched l.search bytes handed
    × (l.taken ≡ length bytes)
    × (g.R.Source.left l.fn.reader ≡ after_piece bytes (g.R.Source.left l.reader))
    × Prints l.fn.lines.form l.lines handed (g.O.Target.held l.fn.out) (g.O.Target.held l.out) (g.O.Target.failures l.fn.out) (g.O.Target.failures l.out))

-- how many more bytes a text can have
abbrev pub decreases-loop-count : goal.decreases-loop-count
decreases-loop-count g l = 2 ^ 63 - l.taken
