-- What is found in the bytes of a reader.
use Rattle.std.specs.Prelude.{◌≡◌, true, false, ℕ, ◌+◌, ◌≤◌, ◌^◌, List, ◌++◌, length, Option, Some, None, Result, IfOk, OnErr, is_err}
use Rattle.collation_table.specs.declared.lookup.Weights.{Ghosts}
use Rattle.collation_matches.specs.Answer.{Answer}
use Rattle.collation_matches.specs.GoodPrefix.{is_good_so_far}
use Rattle.collation_search.specs.Search.{HasSearched, sought}
use Rattle.collation_matches.specs.Sought.{IsCompiledFrom, answer_to}
use Rattle.collation_search.specs.declared.search.Search.{Search}
use Rattle.colfind_io.specs.declared.devices.DeviceFault.{DeviceFault}
use Rattle.colfind_io.specs.declared.lines.Lines.{Lines}
use Rattle.colfind_io.specs.declared.output.Output.{Output}
use Rattle.colfind_run.specs.declared.run.TextEnd.{TextEnd}
use Rattle.colfind_run.specs.declared.run.TextEnd.TheVariants.{Good, Fault, Unread}
use Rattle.colfind_run.specs.declared.texts.Ending.{Ending}
use Rattle.colfind_run.specs.declared.texts.Ending.TheVariants as ending
use Rattle.colfind_io.specs.Devices.{after_piece}
use Rattle.colfind_io.specs.Gathering.{Prints}
use Rattle.colfind_run.specs.Running.{IsAtEnd}

-- the answer to the bytes that were read, or their settled ranges, by how the text ended
abbrev pub IsFoundIn : (List ℕ → Answer) → (List ℕ → List (ℕ × ℕ)) → TextEnd → List (ℕ × ℕ) → List ℕ → Option (List ℕ) → Type 0
IsFoundIn all settled Good ranges bytes left =
    IsAtEnd left × (all bytes ≡ record { ranges = ranges; fault = None })
IsFoundIn all settled (Fault fault) ranges bytes left =
    (is_good_so_far bytes ≡ true → IsAtEnd left) × (all bytes ≡ record { ranges = ranges; fault = Some fault })
IsFoundIn all settled (Unread count) ranges bytes left =
    (is_good_so_far bytes ≡ true) × (ranges ≡ settled bytes) × (count ≡ length bytes)

-- the bytes that were read, and what was found in them
pub record Finds (all : List ℕ → Answer) (settled : List ℕ → List (ℕ × ℕ)) (end : TextEnd) (ranges : List (ℕ × ℕ)) (before after : Option (List ℕ)) : Type 0 where
  pub bytes : List ℕ
  pub from_reader : before ≡ after_piece bytes after
  pub found : IsFoundIn all settled end ranges bytes after

-- how often the reader failed
abbrev pub failures_of : TextEnd → ℕ
failures_of (Unread _) = 1
failures_of _ = 0

abbrev pub failures_at : Ending → ℕ
failures_at (ending.Unread _) = 1
failures_at _ = 0

-- what the search has taken and handed out when the reading of a text ended
abbrev pub HasSearchedUntil : {W : Type 0} {G : Ghosts W} → Search W G → Ending → List ℕ → List (ℕ × ℕ) → Option (List ℕ) → Type 0
HasSearchedUntil search ending.End bytes handed left = IsAtEnd left × HasSearched search bytes handed
HasSearchedUntil search (ending.Closed fault) bytes handed left =
    (is_good_so_far bytes ≡ false)
    × ((text : List ℕ) → IsCompiledFrom (sought search) text → answer_to (sought search) text bytes ≡ record { ranges = handed; fault = Some fault })
HasSearchedUntil search (ending.Unread count) bytes handed left = (count ≡ length bytes) × HasSearched search bytes handed

-- The bytes were read, and the ranges handed out, whose lines were printed or wait. Where a write failed these ranges begin
-- those of the answer to the bytes.
pub record Searches {W : Type 0} {G : Ghosts W} (search : Search W G) (form : Output) (result : Result Ending DeviceFault) (lines : Lines)
    (left_before left_after held_before held_after : Option (List ℕ)) (failures failures_after : ℕ) : Type 0 where
  pub bytes : List ℕ
  pub handed : List (ℕ × ℕ)
  pub from_reader : left_before ≡ after_piece bytes left_after
  pub prints : Prints form lines handed held_before held_after failures failures_after
  pub few : length bytes ≤ 2 ^ 62 + 4096
  pub ended : IfOk result (λ end. HasSearchedUntil search end bytes handed left_after)
  pub begun : OnErr result ((text : List ℕ) → IsCompiledFrom (sought search) text
      → (rest : List (ℕ × ℕ)) × ((answer_to (sought search) text bytes).ranges ≡ handed ++ rest))
  pub failed : lines.failed ≡ is_err result
