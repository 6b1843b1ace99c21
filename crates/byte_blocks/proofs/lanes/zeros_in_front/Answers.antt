use Rattle.std.proofs.Common.{ℕ, not, eqb, sym, subst, arith, bit_or, w8, w64}
use Rattle.std.specs.Int.{trailing_zeros}
use Rattle.std.proofs.lemmas.Simd.{bitmask_splat}
use Rattle.byte_blocks.proofs.LaneLemmas.{first-lane, IsFirstNonZero}
use Rattle.byte_blocks.proofs.lanes.zeros_in_front.Goals as goal

pub returns-clause-within : goal.returns-clause-within
returns-clause-within c =
    let mask = bitmask_splat w8 (λ (a b : ℕ). not (eqb a b)) c.args.v 16 0 c.fits-v.0 (omega arith) in
    let h = subst (λ m. IsFirstNonZero c.args.v (trailing_zeros w64 (bit_or m 65536))) (sym mask) (first-lane c.args.v c.fits-v.0) in h.within

pub returns-clause-zeros : goal.returns-clause-zeros
returns-clause-zeros c =
    let mask = bitmask_splat w8 (λ (a b : ℕ). not (eqb a b)) c.args.v 16 0 c.fits-v.0 (omega arith) in
    let h = subst (λ m. IsFirstNonZero c.args.v (trailing_zeros w64 (bit_or m 65536))) (sym mask) (first-lane c.args.v c.fits-v.0) in h.zeros

pub returns-clause-stop : goal.returns-clause-stop
returns-clause-stop c =
    let mask = bitmask_splat w8 (λ (a b : ℕ). not (eqb a b)) c.args.v 16 0 c.fits-v.0 (omega arith) in
    let h = subst (λ m. IsFirstNonZero c.args.v (trailing_zeros w64 (bit_or m 65536))) (sym mask) (first-lane c.args.v c.fits-v.0) in h.stop
