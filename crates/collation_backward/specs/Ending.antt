-- The match that ends where the text ends, of bytes that may be at fault: what stands behind the last fault says it, or that fault is told.
use Rattle.std.specs.Prelude.{ℕ, zero, suc, ◌+◌, Bool, false, not, ◌==◌, ◌&&◌, ◌||◌, nat_lt, List, [], ◌∷◌, drop, length, Option, None, Some, is_none, is_some, Result, Ok, Err, if◌then◌else◌}
use Rattle.std.specs.Option.{option_map}
use Rattle.utf8_cut.specs.Characters.{characters}
use Rattle.collation_table.specs.Table.{TableMap}
use Rattle.collation_pattern.specs.Compiled.{Compiled}
use Rattle.collation_matches.specs.declared.faults.TextFault.{TextFault}
use Rattle.collation_matches.specs.GoodPrefix.{fault}
use Rattle.collation_matches.specs.Offsets.{fault_moved}
use Rattle.collation_safe.specs.Safe.{is_safe_character}
use Rattle.collation_anchored.specs.Anchored.{ends}
use Rattle.collation_anchored.specs.Answers.{has_more_keys, unless_fault}

-- ---- numbers that pass a test

-- of so many numbers from one on the first that passes
abbrev pub first_from : ℕ → ℕ → (ℕ → Bool) → Option ℕ
first_from zero at test = None
first_from (suc n) at test = if test at then Some at else first_from n (at + 1) test

-- the greatest number below another one that passes
abbrev pub last_below : ℕ → (ℕ → Bool) → Option ℕ
last_below zero test = None
last_below (suc n) test = if test n then Some n else last_below n test

-- ---- the last fault of a text

-- the first of these characters is safe
abbrev pub is_first_safe : TableMap → List (ℕ × ℕ) → Bool
is_first_safe table [] = false
is_first_safe table (first ∷ rest) = is_safe_character table first.0

-- such a character stands first: these bytes are read by themselves, whatever stands before them
abbrev pub starts_safely : TableMap → List ℕ → Bool
starts_safely table bytes = is_first_safe table (characters bytes)

-- the rest of a text from an offset on is read by itself, and has a fault; from its beginning on each text is read
abbrev pub is_at_fault_from : TableMap → List ℕ → ℕ → Bool
is_at_fault_from table text at = (at == 0 || starts_safely table (drop at text)) && is_some (fault (drop at text))

-- the fault of the rest from the last such offset on
abbrev pub last_fault : TableMap → List ℕ → Option TextFault
last_fault table text = elim (last_below (length text) (is_at_fault_from table text)) [ None ↦ None | Some at ↦ fault_moved at (fault (drop at text)) ]

-- the first offset behind a fault from which on the rest is read by itself
abbrev pub next_read : TableMap → List ℕ → TextFault → Option ℕ
next_read table text at = first_from (length text) 0 (λ place. nat_lt at.offset place && starts_safely table (drop place text))

-- ---- what is told

-- of the rest of a text from an offset on, which stands behind its last fault: the match, counted from the beginning of the text, or that
-- there is none, where the rest has more keys than the pattern; else the fault, for what stands before it would decide
abbrev pub rest_ends_answer : TableMap → Compiled → List ℕ → List ℕ → TextFault → ℕ → Result (Option ℕ) TextFault
rest_ends_answer table pattern p text at from =
    let rest = drop from text in
    let start = ends table pattern.strength pattern.variable p rest in
    unless_fault (is_none start && not (has_more_keys table pattern rest)) (Some at) (option_map (λ s. from + s) start)

-- the greatest start of a match that ends where the text ends, none, or the last fault, where what stands behind that does not decide
abbrev pub ends_answer : TableMap → Compiled → List ℕ → List ℕ → Result (Option ℕ) TextFault
ends_answer table pattern p text = elim (last_fault table text) [
  | None ↦ Ok (ends table pattern.strength pattern.variable p text)
  | Some at ↦ elim (next_read table text at) [ None ↦ Err at | Some from ↦ rest_ends_answer table pattern p text at from ]
]
