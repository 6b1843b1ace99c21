-- The first range of the answer to a text.
use Rattle.std.specs.Prelude.{◌≡◌, ℕ, ◌≤◌, ◌⊎◌, List, slice_get, Option, Some, None, Result, Ok, Err}
use Rattle.collation_matches.specs.declared.faults.TextFault.{TextFault}
use Rattle.collation_matches.specs.Answer.{Answer}
use Rattle.collation_matches.specs.Offsets.{range_moved, text_fault_moved}

-- the range if there is one, though a fault may stand after it; else the fault; else nothing
abbrev pub range_or_fault : Option (ℕ × ℕ) → Option TextFault → Result (Option (ℕ × ℕ)) TextFault
range_or_fault (Some range) _ = Ok (Some range)
range_or_fault None (Some fault) = Err fault
range_or_fault None None = Ok None

-- the same of the first of some ranges
abbrev pub first_range : List (ℕ × ℕ) → Option TextFault → Result (Option (ℕ × ℕ)) TextFault
first_range ranges fault = range_or_fault (slice_get ranges 0) fault

-- this is the first range of the answer, or its fault; or neither is known so far
abbrev pub IsFirstSoFar : Answer → Result (Option (ℕ × ℕ)) TextFault → Type 0
IsFirstSoFar a (Ok None) = Unit {0}
IsFirstSoFar a (Ok (Some range)) = Ok (Some range) ≡ first_range a.ranges a.fault
IsFirstSoFar a (Err fault) = Err fault ≡ first_range a.ranges a.fault

abbrev pub no_memory : TextFault
no_memory = record { kind = 36; offset = 0 }

-- memory was refused, or this is the first range of the answer
abbrev pub IsFirstOf : Answer → Result (Option (ℕ × ℕ)) TextFault → Type 0
IsFirstOf a result = (result ≡ Err no_memory) ⊎ (result ≡ first_range a.ranges a.fault)

-- ---- from an offset on

-- what was found in the rest of a text, its offsets counted from the beginning of the text
abbrev pub first_moved : ℕ → Result (Option (ℕ × ℕ)) TextFault → Result (Option (ℕ × ℕ)) TextFault
first_moved by (Ok None) = Ok None
first_moved by (Ok (Some range)) = Ok (Some (range_moved by range))
first_moved by (Err fault) = Err (text_fault_moved by fault)

-- no offset of it is behind this one
abbrev pub EndsBy : ℕ → Result (Option (ℕ × ℕ)) TextFault → Type 0
EndsBy end (Ok None) = Unit {0}
EndsBy end (Ok (Some range)) = (range.0 ≤ end) × (range.1 ≤ end)
EndsBy end (Err fault) = fault.offset ≤ end
