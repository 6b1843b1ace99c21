-- What calls of a search do that is put away before and after them.
use Rattle.std.specs.Prelude.{◌≡◌, ℕ, ◌+◌, ◌≤◌, List, [], ◌++◌, length, Result, Option, OnOk, IfErr, Err, None, Some}
use Rattle.collation_matches.specs.declared.faults.TextFault.{TextFault}
use Rattle.collation_matches.specs.Sought.{Sought, IsCompiledFrom, answer_to}
use Rattle.collation_matches.specs.Offsets.{answer_from}
use Rattle.collation_table.specs.declared.lookup.Weights.{Ghosts}
use Rattle.collation_search.specs.declared.parking.Parked.{Parked}
use Rattle.collation_search.specs.declared.search.Search.{Search}
use Rattle.collation_search.specs.Search.{sought, HasSearched, HasReported}
use Rattle.collation_search.specs.Feeding.{fault_of}
use Rattle.collation_search.specs.Indexing.{first_range}
use Rattle.collation_search.specs.Parking.{HasParked, parked_fault}
use Rattle.collation_parts.specs.Parts.{part_answer}
use Rattle.colfind_c.specs.declared.queue.Queue.{Queue}
use Rattle.colfind_c.specs.Queues.{Gets}

-- how many ranges more than it has bytes a piece can make known
abbrev pub most_found_late : ℕ
most_found_late = 383

-- A search took a piece, in any parts: what FeedsParked says, but for how many ranges there are.
pub record FeedsInParts {W : Type 0} {G : Ghosts W} (old : Search W G) (piece : List ℕ) (result : Result (Unit {0}) TextFault) (found : List (ℕ × ℕ)) (new : Search W G) : Type 0 where
  pub stands : (u : List ℕ) (handed : List (ℕ × ℕ)) → HasSearched old u handed → OnOk result (HasSearched new (u ++ piece) (handed ++ found))
  pub answer : (text u more : List ℕ) (handed : List (ℕ × ℕ)) → IsCompiledFrom (sought old) text → HasSearched old u handed
      → IfErr result (λ f. answer_to (sought old) text ((u ++ piece) ++ more) ≡ record { ranges = handed ++ found; fault = Some f })
  pub again : (f : TextFault) → HasReported old f → (result ≡ Err f) × (found ≡ [])
  pub reported : IfErr result (λ f. HasReported new f)
  pub same_sought : sought new ≡ sought old

-- A piece went in, and the ranges became known.
--   stands: without a fault the piece is among the bytes
--   answer: with a fault the ranges are all of the answer, whatever follows
--   again: a fault that was reported before is reported again, with no ranges
--   reported: a fault stays
--   few: no more ranges became known than the piece has bytes, and those that were held back
pub record FeedsParked (s : Sought) (old : Parked) (piece : List ℕ) (result : Result (Unit {0}) TextFault) (found : List (ℕ × ℕ)) (new : Parked) : Type 0 where
  pub stands : (u : List ℕ) (handed : List (ℕ × ℕ)) → HasParked s old u handed → OnOk result (HasParked s new (u ++ piece) (handed ++ found))
  pub answer : (text u more : List ℕ) (handed : List (ℕ × ℕ)) → IsCompiledFrom s text → HasParked s old u handed
      → IfErr result (λ f. answer_to s text ((u ++ piece) ++ more) ≡ record { ranges = handed ++ found; fault = Some f })
  pub again : (f : TextFault) → parked_fault old ≡ Some f → (result ≡ Err f) × (found ≡ [])
  pub reported : IfErr result (λ f. parked_fault new ≡ Some f)
  pub few : (text u : List ℕ) (handed : List (ℕ × ℕ)) → IsCompiledFrom s text → HasParked s old u handed → length found ≤ length piece + most_found_late

-- The text has ended: the ranges are all of its answer.
pub record FinishesParked (s : Sought) (old : Parked) (result : Result (Unit {0}) TextFault) (found : List (ℕ × ℕ)) : Type 0 where
  pub good : (text u : List ℕ) (handed : List (ℕ × ℕ)) → IsCompiledFrom s text → HasParked s old u handed
      → OnOk result (answer_to s text u ≡ record { ranges = handed ++ found; fault = None })
  pub bad : (text u : List ℕ) (handed : List (ℕ × ℕ)) → IsCompiledFrom s text → HasParked s old u handed
      → IfErr result (λ f. answer_to s text u ≡ record { ranges = handed ++ found; fault = Some f })
  pub again : (f : TextFault) → parked_fault old ≡ Some f → (result ≡ Err f) × (found ≡ [])

-- the first range of what stands in a text from an offset on, or its fault
abbrev pub IsFirstFrom : Sought → List ℕ → List ℕ → ℕ → Result (Option (ℕ × ℕ)) TextFault → Type 0
IsFirstFrom s pattern text from result = result ≡ first_range (answer_from s pattern text from).ranges (answer_from s pattern text from).fault

-- The ranges of the part of a text between two offsets were put at the end of a queue, and its fault is told.
pub record SearchesPart (s : Sought) (text : List ℕ) (from to : ℕ) (before : Queue) (result : Result (Unit {0}) TextFault) (after : Queue) : Type 0 where
  pub ranges : (p : List ℕ) → IsCompiledFrom s p → Gets before (part_answer s p text from to).ranges after
  pub fault : (p : List ℕ) → IsCompiledFrom s p → fault_of result ≡ (part_answer s p text from to).fault
