use Rattle.std.proofs.Common.{slice_index, arith}
use Rattle.std.proofs.lemmas.Nat.{le_or_l, le_or_r}
use Rattle.byte_blocks.proofs.lanes.are_zero.Goals as goal

pub returns : goal.returns
returns c = λ none k less.
    let zero_here = c.is_zero.ensures.0 none k less in
    let both = c.either.ensures.each k less in
    let left = le_or_l (slice_index c.args.a k) (slice_index c.args.b k) in
    let right = le_or_r (slice_index c.args.a k) (slice_index c.args.b k) in
    (omega (arith, zero_here, both, left), omega (arith, zero_here, both, right))
