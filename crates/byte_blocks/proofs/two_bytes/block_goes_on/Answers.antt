use Rattle.std.proofs.Common.{◌≡◌, ℕ, sym, subst}
use Rattle.byte_blocks.specs.declared.sets.TwoByteSets.{TwoByteSets}
use Rattle.byte_blocks.specs.TwoBytes.{GoesOn}
use Rattle.byte_blocks.proofs.two_bytes.block_goes_on.Goals as goal

same : (sets : TwoByteSets) (a b c x y z : ℕ) → a ≡ x → b ≡ y → c ≡ z → GoesOn sets a b c → GoesOn sets x y z
same sets a b c x y z first second third goes =
    subst (λ v. GoesOn sets v y z) first (subst (λ v. GoesOn sets a v z) second (subst (λ v. GoesOn sets a b v) third goes))

pub returns : goal.returns
returns c =
    let sets = c.args.sets.now in
    let earlier = c.load.ensures.each in
    let before = c.load-2.ensures.each in
    let here = c.load-3.ensures.each in (
      λ yes k less. same sets _ _ _ _ _ _ (earlier k less) (before k less) (here k less) ((c.stops_of_two.ensures k less).0 (c.is_zero.ensures.0 yes k less)),
      λ pass. c.is_zero.ensures.1 (λ k less. (c.stops_of_two.ensures k less).1 (same sets _ _ _ _ _ _ (sym (earlier k less)) (sym (before k less)) (sym (here k less)) (pass k less))),
    )
