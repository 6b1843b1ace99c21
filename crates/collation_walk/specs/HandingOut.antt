-- Ranges that are handed out.
use Rattle.std.specs.Prelude.{ℕ, List}
use Rattle.std.specs.List.{FoldsTo}

-- A sink was called once for each of some ranges, in order, and this holds of them.
abbrev pub HandsOut : {Sink : Type 0} → (Sink → ℕ → ℕ → Unit {0} → Sink → Type 0) → Sink → Sink → (List (ℕ × ℕ) → Type 0) → Type 0
HandsOut step old new Holds = (ranges : List (ℕ × ℕ)) × FoldsTo (λ f range g. step f range.0 range.1 tt g) old ranges new × Holds ranges
