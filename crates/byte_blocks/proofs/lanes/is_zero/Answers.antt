use Rattle.std.proofs.Common.{◌≡◌, ◌∙◌, ℕ, not, eqb, refl, sym, subst, arith, bit_or, w8, w64}
use Rattle.std.specs.Int.{trailing_zeros}
use Rattle.std.proofs.lemmas.Simd.{bitmask_splat}
use Rattle.std.proofs.lemmas.Bool.{eq-eqb, eqb-true}
use Rattle.byte_blocks.proofs.LaneLemmas.{first-lane, mask-none, IsFirstNonZero}
use Rattle.byte_blocks.proofs.lanes.is_zero.Goals as goal

pub returns : goal.returns
unfolding lib.Count.count_trailing_zeros
returns c =
    let mask = bitmask_splat w8 (λ (a b : ℕ). not (eqb a b)) c.args.v 16 0 c.fits-v.0 (omega arith) in (
      λ none k less.
          let h = subst (λ m. IsFirstNonZero c.args.v (trailing_zeros w64 (bit_or m 65536))) (sym mask ∙ eqb-true _ 0 none) (first-lane c.args.v c.fits-v.0) in
          let all : trailing_zeros w64 (bit_or 0 65536) ≡ 16 = refl in
          h.zeros k (omega (arith, less, all)),
      λ zeros. eq-eqb _ 0 (mask ∙ mask-none c.args.v c.fits-v.0 zeros),
    )
