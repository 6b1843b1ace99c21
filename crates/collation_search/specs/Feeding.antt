-- What a search has done with a piece of a text.
use Rattle.std.specs.Prelude.{◌≡◌, ℕ, ◌+◌, ◌<◌, ◌≤◌, false, List, [], ◌++◌, length, Result, OnOk, OnErr, IfErr, Option, None, Some, Ok, Err}
use Rattle.collation_table.specs.declared.lookup.Weights.{Ghosts}
use Rattle.collation_matches.specs.declared.faults.TextFault.{TextFault}
use Rattle.collation_search.specs.declared.search.Search.{Search}
use Rattle.collation_matches.specs.GoodPrefix.{is_good_so_far}
use Rattle.collation_search.specs.Search.{HasSearched, HasTaken, HasReported, HasReportedNone, sought}
use Rattle.collation_search.specs.StateAfter.{IsReported}
use Rattle.collation_matches.specs.Sought.{IsCompiledFrom, answer_to}

-- the fault that was reported, or none
abbrev pub fault_of : Result (Unit {0}) TextFault → Option TextFault
fault_of (Ok done) = None
fault_of (Err f) = Some f

-- Bytes were taken, with this result, and the ranges were handed out in this order. `Before` says what the search represented, of bytes
-- and ranges, `After` what it represents then, and `Known` what is known of both and of the fault that was reported, or none.
--   stands: without a fault the search represents these bytes too
--   known: what is known of all bytes so far and all that was handed out
--   ended: with a fault what was handed out is reported whatever follows the bytes, and so is the fault
--   answer: with a fault what was handed out is all of the answer, whatever follows the bytes
--   closed: a fault is reported only where no text goes on from the bytes
--   again: a fault that was reported before is reported again, and nothing is handed out
--   none: without a fault none was reported
--   memory: want of memory is reported only where it was reported before
pub record Took {W : Type 0} {G : Ghosts W} (Before After : List ℕ → List (ℕ × ℕ) → Type 0) (Known : List ℕ → List (ℕ × ℕ) → Option TextFault → Type 0) (old : Search W G) (bytes : List ℕ) (result : Result (Unit {0}) TextFault) (found : List (ℕ × ℕ)) (new : Search W G) : Type 0 where
  pub stands : (u : List ℕ) (handed : List (ℕ × ℕ)) → Before u handed → OnOk result (After (u ++ bytes) (handed ++ found))
  pub known : (u : List ℕ) (handed : List (ℕ × ℕ)) → Before u handed → Known (u ++ bytes) (handed ++ found) (fault_of result)
  pub ended : (u more : List ℕ) (handed : List (ℕ × ℕ)) → Before u handed →
      IfErr result (λ f. IsReported (sought old) ((u ++ bytes) ++ more) (handed ++ found) (Some f))
  pub answer : (text u more : List ℕ) (handed : List (ℕ × ℕ)) → IsCompiledFrom (sought old) text → Before u handed →
      IfErr result (λ f. answer_to (sought old) text ((u ++ bytes) ++ more) ≡ record { ranges = handed ++ found; fault = Some f })
  pub closed : (u more : List ℕ) (handed : List (ℕ × ℕ)) → Before u handed → OnErr result (is_good_so_far ((u ++ bytes) ++ more) ≡ false)
  pub reported : IfErr result (λ f. HasReported new f)
  pub again : (f : TextFault) → HasReported old f → (result ≡ Err f) × (found ≡ [])
  pub none : OnOk result (HasReportedNone new)
  pub memory : IfErr result (λ f. f.kind ≡ 35 → HasReported old f)
  pub same_sought : sought new ≡ sought old

-- The piece was taken. What was handed out is what is reported after these bytes, however they were cut into pieces, and a fault is
-- reported exactly where one stands in them.
abbrev pub Feeds : {W : Type 0} {G : Ghosts W} → Search W G → List ℕ → Result (Unit {0}) TextFault → List (ℕ × ℕ) → Search W G → Type 0
Feeds {W} {G} old piece result found new = Took (HasSearched old) (HasSearched new) (IsReported (sought old)) old piece result found new

-- The text ended, with this result, and the rest of the ranges were handed out.
--   good: without a fault what was handed out is the answer
--   bad: with a fault too
--   again: a fault that was reported before is reported again, and nothing is handed out
--   memory: want of memory is reported only where it was reported before
pub record Ends {W : Type 0} {G : Ghosts W} (old : Search W G) (result : Result (Unit {0}) TextFault) (found : List (ℕ × ℕ)) : Type 0 where
  pub good : (text u : List ℕ) (handed : List (ℕ × ℕ)) → IsCompiledFrom (sought old) text → HasSearched old u handed →
      OnOk result (answer_to (sought old) text u ≡ record { ranges = handed ++ found; fault = None })
  pub bad : (text u : List ℕ) (handed : List (ℕ × ℕ)) → IsCompiledFrom (sought old) text → HasSearched old u handed →
      IfErr result (λ f. answer_to (sought old) text u ≡ record { ranges = handed ++ found; fault = Some f })
  pub again : (f : TextFault) → HasReported old f → (result ≡ Err f) × (found ≡ [])
  pub memory : IfErr result (λ f. f.kind ≡ 35 → HasReported old f)

-- The bytes went in and the ranges were handed out; units were cut early up to `place` at most, and so may be up to `reach` bytes from
-- here on.
abbrev pub MayCut : {W : Type 0} {G : Ghosts W} → Search W G → ℕ → ℕ → List ℕ → List (ℕ × ℕ) → Type 0
MayCut {W} {G} search reach place taken handed = (0 < reach → length taken + reach ≤ place) × HasTaken search place taken handed

-- Whatever bytes follow, the ranges that were handed out begin those of the answer.
abbrev pub BeginsAnswers : {W : Type 0} {G : Ghosts W} → Search W G → Type 0
BeginsAnswers {W} {G} search =
    (place : ℕ) (text taken later : List ℕ) (handed : List (ℕ × ℕ)) → IsCompiledFrom (sought search) text → HasTaken search place taken handed →
    (rest : List (ℕ × ℕ)) × ((answer_to (sought search) text (taken ++ later)).ranges ≡ handed ++ rest)

-- A part of a piece was taken, of whose characters units may be cut early, up to `reach` bytes from its beginning on. Of what was handed
-- out nothing is known from the bytes alone then.
abbrev pub TakesPart : {W : Type 0} {G : Ghosts W} → Search W G → ℕ → List ℕ → Result (Unit {0}) TextFault → List (ℕ × ℕ) → Search W G → Type 0
TakesPart {W} {G} old reach piece result found new =
    (place : ℕ) → Took (MayCut old reach place) (HasTaken new place) (λ bytes ranges fault. Unit {0}) old piece result found new
