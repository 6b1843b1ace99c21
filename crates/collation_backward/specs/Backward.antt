-- What a text says up to an offset, and what is told going back from there: the range or the fault that is met first.
use Rattle.std.specs.Prelude.{◌≡◌, ◌⊎◌, ℕ, ◌<◌, Bool, true, false, nat_le, nat_lt, List, length, drop, filter, Option, None, Some, Result, Ok, Err}
use Rattle.collation_table.specs.Table.{TableMap}
use Rattle.collation_matches.specs.declared.faults.TextFault.{TextFault}
use Rattle.collation_matches.specs.Answer.{Answer}
use Rattle.collation_matches.specs.GoodPrefix.{fault}
use Rattle.collation_matches.specs.Offsets.{answer_from, fault_moved}
use Rattle.collation_matches.specs.Sought.{Sought}
use Rattle.collation_safe.specs.Safe.{IsSafeOffset}
use Rattle.collation_anchored.specs.Anchored.{last_of}
use Rattle.collation_anchored.specs.Answers.{has_more_keys, unless_fault}
use Rattle.collation_anchored.specs.Laws.{start_of_equal}

-- of some ranges, the last one that ends at an offset or before it
abbrev pub last_up_to : ℕ → List (ℕ × ℕ) → Option (ℕ × ℕ)
last_up_to at ranges = last_of (filter (λ range. nat_le range.1 at) ranges)

-- there is a fault, and it stands before an offset
abbrev pub is_fault_before : ℕ → Option TextFault → Bool
is_fault_before at None = false
is_fault_before at (Some fault) = nat_lt fault.offset at

-- what an answer says up to an offset: the fault, if it stands before the offset, or else the last range that ends there or before it
abbrev pub said_up_to : ℕ → Answer → Result (Option (ℕ × ℕ)) TextFault
said_up_to at a = unless_fault (is_fault_before at a.fault) a.fault (last_up_to at a.ranges)

-- where a search may begin for what stands before an offset: at the beginning of a text, or at a safe offset before this one
abbrev pub IsPlaceBefore : TableMap → List ℕ → ℕ → ℕ → Type 0
IsPlaceBefore table text at place = (place ≡ 0) ⊎ (IsSafeOffset table text place × (place < at))

-- What is told is what the rest of the text from such a place on says up to the offset; that there is none is said from the first place.
pub record IsToldFrom (s : Sought) (p text : List ℕ) (first at : ℕ) (result : Result (Option (ℕ × ℕ)) TextFault) : Type 0 where
  pub place : ℕ
  pub begins : IsPlaceBefore s.table text at place
  pub says : result ≡ said_up_to at (answer_from s p text place)
  pub none : result ≡ Ok None → place ≡ first

-- the same where that there is none is said by the whole text
abbrev pub IsToldBefore : Sought → List ℕ → List ℕ → ℕ → Result (Option (ℕ × ℕ)) TextFault → Type 0
IsToldBefore s p text at result = IsToldFrom s p text 0 at result

-- from each safe offset behind a fault the rest says that there is nothing up to the offset
abbrev pub IsNothingBehind : Sought → List ℕ → List ℕ → ℕ → TextFault → Type 0
IsNothingBehind s p text at fault =
    (place : ℕ) → IsSafeOffset s.table text place → fault.offset < place → place < at → said_up_to at (answer_from s p text place) ≡ Ok None

-- ---- the match that ends where a text ends

-- what is told of it, by what is said up to the end of the text: the start of the last range, if the text from there on is equal, or the
-- fault
abbrev pub start_told : Sought → List ℕ → List ℕ → Result (Option (ℕ × ℕ)) TextFault → Result (Option ℕ) TextFault
start_told s p text (Ok found) = Ok (start_of_equal s.table s.pattern.strength s.pattern.variable p text found)
start_told s p text (Err fault) = Err fault

-- a text has more keys than the pattern
abbrev pub HasMoreKeys : Sought → List ℕ → Type 0
HasMoreKeys s text = has_more_keys s.table s.pattern text ≡ true

-- What is told going back from the end is what the rest of the text from such a place on says up to the end; that there is none is said from
-- the beginning, or by a rest that has more keys than the pattern.
pub record IsToldOfEnd (s : Sought) (p text : List ℕ) (result : Result (Option (ℕ × ℕ)) TextFault) : Type 0 where
  pub place : ℕ
  pub begins : (place ≡ 0) ⊎ (IsSafeOffset s.table text place × (place < length text))
  pub says : result ≡ said_up_to (length text) (answer_from s p text place)
  pub none : result ≡ Ok None → (place ≡ 0) ⊎ HasMoreKeys s (drop place text)

-- the fault is that of the rest from a place on
pub record IsFaultFrom (table : TableMap) (text : List ℕ) (at : TextFault) : Type 0 where
  pub place : ℕ
  pub begins : (place ≡ 0) ⊎ IsSafeOffset table text place
  pub is : fault_moved place (fault (drop place text)) ≡ Some at
