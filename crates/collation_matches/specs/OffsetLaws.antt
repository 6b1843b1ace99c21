-- From where on the rest of a text, taken as a text by itself, has the ranges that the text has there.
use Rattle.std.specs.Prelude.{◌≡◌, ◌⊎◌, ℕ, zero, suc, ◌<◌, ◌≤◌, nat_le, Contains, List, [], ◌∷◌, length, take, drop, map, filter, slice_get, None, Some}
use Rattle.std.specs.Str.{IsUtf8}
use Rattle.collation_table.specs.Table.{TableMap}
use Rattle.collation_elements.specs.declared.settings.Strength.{Strength}
use Rattle.collation_elements.specs.declared.settings.Variable.{Variable}
use Rattle.collation_elements.specs.Boundaries.{boundaries}
use Rattle.collation_matches.specs.declared.select.Select.TheVariants.{All, Chain}
use Rattle.collation_matches.specs.GoodPrefix.{most_bytes, fault, good_prefix}
use Rattle.collation_matches.specs.Matches.{matches}
use Rattle.collation_matches.specs.Offsets.{range_moved, answer_from}
use Rattle.collation_matches.specs.Sought.{Sought, IsCompiledFrom, answer_to}

-- of some ranges, those that begin at an offset or after it
abbrev pub ranges_from : ℕ → List (ℕ × ℕ) → List (ℕ × ℕ)
ranges_from from ranges = filter (λ range. nat_le from range.0) ranges

-- From a boundary of a text on, the minimal matches of the rest are those of the text that begin
-- there or later.
abbrev pub MatchesFromBoundaries : Type 0
MatchesFromBoundaries =
    (table : TableMap) (strength : Strength) (variable : Variable) (pattern text : List ℕ) (from : ℕ) →
    IsUtf8 text → Contains (boundaries table text) from →
    map (range_moved from) (matches table strength variable pattern (drop from text))
    ≡ ranges_from from (matches table strength variable pattern text)

-- A place from which one may go on in some bytes: a boundary of what stands before their first fault
-- and, where there is a fault, not the end of that. There are at most 2^62 bytes: past that they are
-- at fault for their number, which the rest need not be.
pub record MayGoOnFrom (table : TableMap) (bytes : List ℕ) (from : ℕ) : Type 0 where
  pub few : length bytes ≤ most_bytes
  pub boundary : Contains (boundaries table (good_prefix bytes)) from
  pub before_fault : (fault bytes ≡ None) ⊎ (from < length (good_prefix bytes))

-- From such a place on the ranges of the answer are those that begin there or later, and the fault
-- is the same.
abbrev pub AnswersFromBoundaries : Type 0
AnswersFromBoundaries =
    (s : Sought) (text bytes : List ℕ) (from : ℕ) →
    s.select ≡ All → MayGoOnFrom s.table bytes from →
    let all = answer_to s text bytes in
    answer_from s text bytes from ≡ record { ranges = ranges_from from all.ranges; fault = all.fault }

-- The start and the end of each range of the answer are such places.
abbrev pub RangesMayBeGoneOnFrom : Type 0
RangesMayBeGoneOnFrom =
    (s : Sought) (text bytes : List ℕ) (range : ℕ × ℕ) →
    length bytes ≤ most_bytes → Contains (answer_to s text bytes).ranges range →
    MayGoOnFrom s.table bytes range.0 × MayGoOnFrom s.table bytes range.1

-- what so many calls find, the first one from this offset on and each other one from the end of the
-- range before it, until one finds none
abbrev pub found_by_calls : ℕ → Sought → List ℕ → List ℕ → ℕ → List (ℕ × ℕ)
found_by_calls zero s text bytes from = []
found_by_calls (suc n) s text bytes from =
    elim (slice_get (answer_from s text bytes from).ranges 0) [
      | None ↦ []
      | Some range ↦ range ∷ found_by_calls n s text bytes range.1
    ]

-- So many calls from the beginning of a text give so many ranges of the chain.
abbrev pub CallsGiveTheChain : TableMap → Type 0
CallsGiveTheChain table =
    (s : Sought) (text bytes : List ℕ) (n : ℕ) →
    s.table ≡ table → IsCompiledFrom s text → 0 < length s.pattern.keys → length bytes ≤ most_bytes →
    let chained : Sought = record { table = s.table; pattern = s.pattern; select = Chain } in
    found_by_calls n s text bytes 0 ≡ take n (answer_to chained text bytes).ranges
