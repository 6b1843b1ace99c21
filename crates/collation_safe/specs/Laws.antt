-- Why a search may begin at a safe offset.
use Rattle.std.specs.Prelude.{◌≡◌, ◌⊎◌, ℕ, ◌+◌, ◌<◌, ◌≤◌, List, ◌++◌, length, None, Contains}
use Rattle.std.specs.Str.{IsUtf8}
use Rattle.collation_table.specs.Table.{TableMap}
use Rattle.collation_elements.specs.Boundaries.{boundaries}
use Rattle.collation_matches.specs.declared.select.Select.TheVariants.{All}
use Rattle.collation_matches.specs.GoodPrefix.{most_bytes, fault, good_prefix}
use Rattle.collation_matches.specs.OffsetLaws.{MayGoOnFrom, ranges_from}
use Rattle.collation_matches.specs.Offsets.{answer_from}
use Rattle.collation_matches.specs.Sought.{Sought, answer_to}
use Rattle.collation_safe.specs.Safe.{IsSafeOffset}

-- A safe offset of a text is a boundary.
abbrev pub SafeOffsetsAreBoundaries : Type 0
SafeOffsetsAreBoundaries =
    (table : TableMap) (text : List ℕ) (at : ℕ) → IsUtf8 text → IsSafeOffset table text at → Contains (boundaries table text) at

-- a text whose first fault, if there is one, stands behind the offset
abbrev pub IsGoodUpTo : List ℕ → ℕ → Type 0
IsGoodUpTo text at = (fault text ≡ None) ⊎ (at < length (good_prefix text))

-- A safe offset of some bytes is one of each text that they are a part of, and where the text has no fault up to there, one may go on from
-- there.
abbrev pub SafeOffsetsMayBeGoneOnFrom : Type 0
SafeOffsetsMayBeGoneOnFrom =
    (table : TableMap) (before bytes after : List ℕ) (at : ℕ) →
    let text = before ++ (bytes ++ after) in
    length text ≤ most_bytes → IsSafeOffset table bytes at → IsGoodUpTo text (length before + at) → MayGoOnFrom table text (length before + at)

-- So from there on the ranges of the answer are those that begin there or later, and the fault is the same.
abbrev pub AnswersFromSafeOffsets : Type 0
AnswersFromSafeOffsets =
    (s : Sought) (pattern before bytes after : List ℕ) (at : ℕ) →
    let text = before ++ (bytes ++ after) in
    let here = length before + at in
    let all = answer_to s pattern text in
    s.select ≡ All → length text ≤ most_bytes → IsSafeOffset s.table bytes at → IsGoodUpTo text here →
    answer_from s pattern text here ≡ record { ranges = ranges_from here all.ranges; fault = all.fault }
