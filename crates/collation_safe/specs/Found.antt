-- The nearest of some offsets.
use Rattle.std.specs.Prelude.{ℕ, ◌≤◌, Option, None, Some}

-- one was found that does not stand behind the offset
abbrev pub IsFoundUpTo : ℕ → Option ℕ → Type 0
IsFoundUpTo at None = ⊥
IsFoundUpTo at (Some found) = found ≤ at

-- one was found that does not stand before the offset
abbrev pub IsFoundFrom : ℕ → Option ℕ → Type 0
IsFoundFrom at None = ⊥
IsFoundFrom at (Some found) = at ≤ found
