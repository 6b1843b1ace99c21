-- Which of the ranges of an answer are handed out: all, or a chain of them that do not overlap.
use Rattle.std.specs.Prelude.{ℕ, nat_le, List, [], ◌∷◌, if◌then◌else◌}
use Rattle.collation_matches.specs.declared.select.Select.{Select}
use Rattle.collation_matches.specs.declared.select.Select.TheVariants.{All, Chain}
use Rattle.collation_matches.specs.Answer.{Answer}

-- of these ranges, in order, each that begins at or after the end of the last one taken, which is `end` at first
abbrev pub chain_after : ℕ → List (ℕ × ℕ) → List (ℕ × ℕ)
chain_after end [] = []
chain_after end (range ∷ ranges) =
    let taken = range ∷ chain_after range.1 ranges in if nat_le end range.0 then taken else chain_after end ranges

-- the first range, and then each that begins at or after the end of the last one taken
abbrev pub chain : List (ℕ × ℕ) → List (ℕ × ℕ)
chain ranges = chain_after 0 ranges

abbrev pub selected : Select → List (ℕ × ℕ) → List (ℕ × ℕ)
selected All ranges = ranges
selected Chain ranges = chain ranges

abbrev pub selected_answer : Select → Answer → Answer
selected_answer select a = record { ranges = selected select a.ranges; fault = a.fault }

-- where the last of these ranges ends; `end` if there is none
abbrev pub end_after : ℕ → List (ℕ × ℕ) → ℕ
end_after end [] = end
end_after end (range ∷ ranges) = end_after range.1 ranges

-- what has to be known of the ranges that were handed out to go on with those that follow: where the last one of a chain ends
abbrev pub remembered : Select → List (ℕ × ℕ) → ℕ
remembered All ranges = 0
remembered Chain ranges = end_after 0 ranges
