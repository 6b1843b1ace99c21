use Rattle.std.proofs.Common.{◌≡◌, ℕ, ◌+◌, ◌*◌, List, [], ◌∷◌, length, slice_index_or, arith}
use Rattle.collation_states.specs.State.{number_of}
use Rattle.collation_states.proofs.saving.number_of.Goals as goal

of-two : (bs : List ℕ) → length bs ≡ 2 → slice_index_or bs 0 0 * 256 + slice_index_or bs 1 0 ≡ number_of bs
of-two [] len = absurd (omega arith)
of-two (a ∷ []) len = absurd (omega arith)
of-two (a ∷ b ∷ []) len = omega arith
of-two (a ∷ b ∷ c ∷ bs) len = absurd (omega arith)

of-three : (bs : List ℕ) → length bs ≡ 3 → (slice_index_or bs 0 0 * 256 + slice_index_or bs 1 0) * 256 + slice_index_or bs 2 0 ≡ number_of bs
of-three [] len = absurd (omega arith)
of-three (a ∷ []) len = absurd (omega arith)
of-three (a ∷ b ∷ []) len = absurd (omega arith)
of-three (a ∷ b ∷ c ∷ []) len = omega arith
of-three (a ∷ b ∷ c ∷ d ∷ bs) len = absurd (omega arith)

pub returns-in-len2 : goal.returns-in-len2
returns-in-len2 c = of-two c.args.bytes.now (omega arith)

pub returns-in-len3 : goal.returns-in-len3
returns-in-len3 c = of-three c.args.bytes.now (omega arith)
