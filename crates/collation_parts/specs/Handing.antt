-- What is handed on of the ranges that are found in the rest of a text, their offsets counted from the beginning of the text.
use Rattle.std.specs.Prelude.{ℕ, ◌+◌, ◌-◌, ◌^◌, List, map, min}
use Rattle.collation_matches.specs.PartLaws.{ranges_before}

-- an offset that no number counts is the greatest one
abbrev pub counted_from : ℕ → ℕ → ℕ
counted_from by offset = min (by + offset) (2 ^ 64 - 1)

abbrev pub range_on : ℕ → ℕ × ℕ → ℕ × ℕ
range_on by range = (counted_from by range.0, counted_from by range.1)

-- those that begin before `len`
abbrev pub handed_on : ℕ → ℕ → List (ℕ × ℕ) → List (ℕ × ℕ)
handed_on by len ranges = map (range_on by) (ranges_before len ranges)
