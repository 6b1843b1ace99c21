-- What is answered of bytes, which may be at fault.
use Rattle.std.specs.Prelude.{ℕ, Bool, true, false, ◌&&◌, not, nat_lt, List, length, Option, None, Some, Result, Ok, Err}
use Rattle.collation_table.specs.Table.{TableMap}
use Rattle.collation_pattern.specs.Compiled.{Compiled}
use Rattle.collation_pattern.specs.Levels.{text_keys}
use Rattle.collation_matches.specs.declared.faults.TextFault.{TextFault}
use Rattle.collation_matches.specs.GoodPrefix.{fault, good_prefix}
use Rattle.collation_anchored.specs.Anchored.{is_equal, begins, is_begun}

-- the answer, unless it is undecided where a fault stands
abbrev pub unless_fault : {A : Type 0} → Bool → Option TextFault → A → Result A TextFault
unless_fault true (Some at) answer = Err at
unless_fault true None answer = Ok answer
unless_fault false at answer = Ok answer

-- the keys of what stands before the first fault are the first of a pattern's, or all of them
abbrev pub begun_by : TableMap → Compiled → List ℕ → Bool
begun_by table pattern bytes = is_begun pattern.keys (text_keys table pattern.strength pattern.variable (good_prefix bytes))

-- At a fault the text counts as ended. The fault is reported where the keys before it are the first of the pattern's, so that what
-- stands after it would decide.
abbrev pub equal_answer : TableMap → Compiled → List ℕ → List ℕ → Result Bool TextFault
equal_answer table pattern p bytes =
    unless_fault (begun_by table pattern bytes) (fault bytes) (is_equal table pattern.strength pattern.variable p (good_prefix bytes))

-- the match that was found ends before this offset
abbrev pub ends_before : ℕ → Option ℕ → Bool
ends_before offset None = false
ends_before offset (Some end) = nat_lt end offset

-- At a fault the text counts as ended, and a match that ends before it stands. Else the fault is reported where the keys before it are the
-- first of the pattern's, or all of them: what stands after it would decide, also of a match that ends at the fault, for its last cluster
-- may go on.
abbrev pub begins_answer : TableMap → Compiled → List ℕ → List ℕ → Result (Option ℕ) TextFault
begins_answer table pattern p bytes =
    let good = good_prefix bytes in
    let end = begins table pattern.strength pattern.variable p good in
    unless_fault (begun_by table pattern bytes && not (ends_before (length good) end)) (fault bytes) end

-- a text has more keys than the pattern
abbrev pub has_more_keys : TableMap → Compiled → List ℕ → Bool
has_more_keys table pattern text = nat_lt (length pattern.keys) (length (text_keys table pattern.strength pattern.variable text))

-- memory was refused
abbrev pub no_memory : TextFault
no_memory = record { kind = 36; offset = 0 }
