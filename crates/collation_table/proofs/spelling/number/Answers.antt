-- After at most five digits, one more fits.
use Rattle.std.proofs.Common.{◌≤◌, ◌<◌, ◌^◌, ℕ, arith, lit<}
use Rattle.std.proofs.Math.Nat.{pow-le-pow_right}
use Rattle.collation_table.proofs.spelling.number.Goals as goal

five_digits : (n i len : ℕ) → n < 16 ^ i → i < len → len ≤ 6 → n < 1048576
five_digits n i len below here short =
    let few : 16 ^ i ≤ 16 ^ 5 = pow-le-pow_right {n = 16} (lit< tt) {i = i} {j = 5} (omega arith) in
    omega arith

pub overflow_mul-number : goal.overflow_mul-number
overflow_mul-number c =
    let below : c.loop-byte.number < 1048576 = five_digits _ _ _ c.loop-byte.invariant.bound (omega arith) c.requires in
    omega arith

pub overflow_add-number : goal.overflow_add-number
overflow_add-number c =
    let below : c.loop-byte.number < 1048576 = five_digits _ _ _ c.loop-byte.invariant.bound (omega arith) c.requires in
    omega arith
