-- What a search looks for, and what it represents.
use Rattle.std.specs.Prelude.{◌≡◌, ℕ, List, None, Some}
use Rattle.collation_table.specs.declared.lookup.Weights.{Ghosts}
use Rattle.collation_matches.specs.declared.faults.TextFault.{TextFault}
use Rattle.collation_search.specs.declared.search.Search.{Search}
use Rattle.collation_matches.specs.Sought.{Sought}
use Rattle.collation_search.specs.Searching.{Searched}
use Rattle.collation_search.specs.Early.{Taken}

abbrev pub sought : {W : Type 0} {G : Ghosts W} → Search W G → Sought
sought {W} {G} search = record {
  table = G.table search.query.table.now;
  pattern = search.query.pattern.now;
  select = search.finder.value.matcher.walk.select;
}

-- The bytes `taken` went in, which are open, and the ranges were handed out.
abbrev pub HasSearched : {W : Type 0} {G : Ghosts W} → Search W G → List ℕ → List (ℕ × ℕ) → Type 0
HasSearched {W} {G} search taken handed =
    Searched (G.table search.query.table.now) search.query.pattern.now search.cut search.finder.value search.fault taken handed

-- The same within a piece, where units may have been cut early, up to a byte offset in the text at most.
abbrev pub HasTaken : {W : Type 0} {G : Ghosts W} → Search W G → ℕ → List ℕ → List (ℕ × ℕ) → Type 0
HasTaken {W} {G} search place taken handed =
    Taken (G.table search.query.table.now) search.query.pattern.now search.cut search.finder.value search.fault place taken handed

-- a fault was reported, at which the text counts as ended
abbrev pub HasReported : {W : Type 0} {G : Ghosts W} → Search W G → TextFault → Type 0
HasReported {W} {G} search fault = search.fault ≡ Some fault

-- no fault was reported
abbrev pub HasReportedNone : {W : Type 0} {G : Ghosts W} → Search W G → Type 0
HasReportedNone {W} {G} search = search.fault ≡ None
