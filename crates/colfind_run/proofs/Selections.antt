-- A selection of ranges has no more of them than there are.
use Rattle.std.proofs.Common.{ℕ, ◌≤◌, Bool, true, false, nat_le, List, [], ◌∷◌, length, if◌then◌else◌, arith}
use Rattle.collation_matches.specs.Selecting.{chain_after, selected}
use Rattle.collation_matches.specs.declared.select.Select.{Select}
use Rattle.collation_matches.specs.declared.select.Select.TheVariants.{All, Chain}

taken_or_passed : (b : Bool) (range : ℕ × ℕ) (taken passed ranges : List (ℕ × ℕ)) → length taken ≤ length ranges → length passed ≤ length ranges →
    length (if b then range ∷ taken else passed) ≤ length (range ∷ ranges)
taken_or_passed true range taken passed ranges few few_passed = omega (arith, few)
taken_or_passed false range taken passed ranges few few_passed = omega (arith, few_passed)

chain_after-few : (end : ℕ) (ranges : List (ℕ × ℕ)) → length (chain_after end ranges) ≤ length ranges
chain_after-few end [] = omega arith
chain_after-few end (range ∷ ranges) =
    taken_or_passed (nat_le end range.0) range (chain_after range.1 ranges) (chain_after end ranges) ranges (chain_after-few range.1 ranges) (chain_after-few end ranges)

pub selected-few : (select : Select) (ranges : List (ℕ × ℕ)) → length (selected select ranges) ≤ length ranges
selected-few All ranges = omega arith
selected-few Chain ranges = chain_after-few 0 ranges
