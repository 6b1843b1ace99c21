use Rattle.std.proofs.Common.{ℕ, ◌+◌, ◌-◌, ◌<◌, arith}
use Rattle.byte_blocks.proofs.PassLemmas.{same-neighbors}
use Rattle.byte_blocks.proofs.ascii.block_passes.Goals as goal

pub returns : goal.returns
returns c =
    let at = c.args.at in
    let behind = c.requires.behind in
    let same = λ (k : ℕ) (less : k < 16).
    same-neighbors c.args.sets.now c.args.bytes.now _ _ _ _ (at + k - 1) (at + k) (c.load.ensures.each k less) (c.load-2.ensures.each k less) (omega (arith, behind)) (omega arith) in (
      λ yes k less. (same k less).0 ((c.stops.ensures k less).0 (c.is_zero.ensures.0 yes k less)),
      λ pass. c.is_zero.ensures.1 (λ k less. (c.stops.ensures k less).1 ((same k less).1 (pass k less))),
    )
