use Rattle.std.proofs.Common.{◌≡◌, ◌≢◌, ℕ, ◌+◌, ◌<◌, ◌≤◌, subst, arith, inl, inr}
use Rattle.std.proofs.lemmas.Bool.{cases_lt}
use Rattle.byte_blocks.specs.Sets.{in_set}
use Rattle.collation_skip.specs.Blocks.{IsClassRight, IsCleanCharacter, most}
use Rattle.collation_skip.proofs.classes.are_right.Goals as goal

-- one byte more
one-more : (P : ℕ → Type 0) (byte : ℕ) → ((c : ℕ) → c < byte → P c) → P byte → (c : ℕ) → c < byte + 1 → P c
one-more P byte before here c less = elim (cases_lt c byte) [
  | inl lower ↦ before c lower
  | inr not_lower ↦ (let same : byte ≡ c = omega (arith, less, not_lower) in subst P same here)
]

pub loop-byte-preserved : goal.loop-byte-preserved
loop-byte-preserved c =
    let pattern = c.args.pattern.now in
    let classes = c.args.classes.now in
    let said = c.is_right_of_known.ensures in
    let right = c.if-not-is_right_of_known.false in
    record {
      each = λ table are. one-more (IsClassRight table pattern classes) c.loop-byte.byte (c.loop-byte.invariant.each table are) (said.class right table are);
      clean = λ table are. one-more (λ b. in_set classes.clean b ≢ 0 → ∥ IsCleanCharacter table pattern (most pattern.keys classes.place) b ∥₁) c.loop-byte.byte (c.loop-byte.invariant.clean table are) (said.clean right table are);
    }

pub returns : goal.returns
returns c = λ yes table are.
    let all : 128 ≤ c.loop-byte.byte = omega (arith, c.loop-byte-test.false) in
    record {
      place = c.requires;
      each = λ b less. c.loop-byte.invariant.each table are b (omega (arith, less, all));
      clean = λ b less. c.loop-byte.invariant.clean table are b (omega (arith, less, all));
    }
