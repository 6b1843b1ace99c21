-- A text that is cut into parts, each searched by itself: together they have the answer of the whole.
use Rattle.std.specs.Prelude.{◌≡◌, ◌⊎◌, ℕ, ◌<◌, ◌≤◌, Bool, false, nat_le, nat_lt, Contains, List, [], ◌∷◌, ◌++◌, length, filter, Option, None, Some, if◌then◌else◌}
use Rattle.collation_table.specs.Table.{TableMap}
use Rattle.collation_elements.specs.Boundaries.{boundaries}
use Rattle.collation_matches.specs.declared.faults.TextFault.{TextFault}
use Rattle.collation_matches.specs.declared.select.Select.TheVariants.{All}
use Rattle.collation_matches.specs.Answer.{Answer}
use Rattle.collation_matches.specs.GoodPrefix.{most_bytes, fault, good_prefix}
use Rattle.collation_matches.specs.Offsets.{answer_from}
use Rattle.collation_matches.specs.Sought.{Sought, answer_to}

-- of some ranges, those that begin before an offset
abbrev pub ranges_before : ℕ → List (ℕ × ℕ) → List (ℕ × ℕ)
ranges_before to ranges = filter (λ range. nat_lt range.0 to) ranges

-- there is a fault at an offset or before it
abbrev pub is_at_fault_by : ℕ → Option TextFault → Bool
is_at_fault_by offset None = false
is_at_fault_by offset (Some at) = nat_le at.offset offset

-- What a part that begins somewhere and those behind it have: of the rest from there on the ranges that begin before the next place,
-- and so on with the rest from that place on. Where a fault stands at the next place or before it, the text ends there.
abbrev pub answer_of_parts : Sought → List ℕ → List ℕ → ℕ → List ℕ → Answer
answer_of_parts s text bytes from [] = answer_from s text bytes from
answer_of_parts s text bytes from (cut ∷ cuts) =
    let here = answer_from s text bytes from in
    let later = answer_of_parts s text bytes cut cuts in
    if is_at_fault_by cut here.fault then here
    else record { ranges = ranges_before cut here.ranges ++ later.ranges; fault = later.fault }

-- places behind one another, of which each that stands before the first fault of the bytes is a boundary of what stands before that
abbrev pub AreCutsFrom : TableMap → List ℕ → ℕ → List ℕ → Type 0
AreCutsFrom table bytes from [] = Unit {0}
AreCutsFrom table bytes from (cut ∷ cuts) =
    (from ≤ cut)
    × ((fault bytes ≡ None) ⊎ (cut < length (good_prefix bytes)) → Contains (boundaries table (good_prefix bytes)) cut)
    × AreCutsFrom table bytes cut cuts

-- The parts have the answer of the whole; the chain is taken of that.
abbrev pub PartsGiveTheAnswer : Type 0
PartsGiveTheAnswer =
    (s : Sought) (text bytes : List ℕ) (cuts : List ℕ) →
    s.select ≡ All → length bytes ≤ most_bytes → AreCutsFrom s.table bytes 0 cuts →
    answer_of_parts s text bytes 0 cuts ≡ answer_to s text bytes
