-- Calls that go back through a text give all of its ranges.
use Rattle.std.specs.Prelude.{◌≡◌, ℕ, zero, suc, ◌-◌, ◌<◌, ◌≤◌, List, [], ◌∷◌, length, take, reverse, None, Some}
use Rattle.collation_table.specs.Table.{TableMap}
use Rattle.collation_matches.specs.declared.select.Select.TheVariants.{All}
use Rattle.collation_matches.specs.GoodPrefix.{most_bytes}
use Rattle.collation_matches.specs.Sought.{Sought, IsCompiledFrom, answer_to}
use Rattle.collation_backward.specs.Backward.{last_up_to}

-- what so many calls find among some ranges, the first one up to this offset, and each other one up to the byte before the end of the range
-- before it, until one finds none
abbrev pub found_backward : ℕ → List (ℕ × ℕ) → ℕ → List (ℕ × ℕ)
found_backward zero ranges at = []
found_backward (suc n) ranges at =
    elim (last_up_to at ranges) [ None ↦ [] | Some range ↦ range ∷ found_backward n ranges (range.1 - 1) ]

-- So many calls from the end of a text give so many ranges of its answer, the last one first: no two of them end at one offset.
abbrev pub CallsGoBack : TableMap → Type 0
CallsGoBack table =
    (s : Sought) (p text : List ℕ) (n : ℕ) →
    s.table ≡ table → s.select ≡ All → IsCompiledFrom s p → 0 < length s.pattern.keys → length text ≤ most_bytes →
    let ranges = (answer_to s p text).ranges in
    found_backward n ranges (length text) ≡ take n (reverse ranges)
