use Rattle.std.proofs.Common.{◌∙◌, ap, bit_and, get_or}
use Rattle.byte_blocks.proofs.LaneLemmas.{look-ok, look-lanes, low-lanes, low-small, lanes-zip2}
use Rattle.byte_blocks.proofs.lanes.members.Goals as goal

pub swizzle : goal.swizzle
swizzle c = look-ok _ _ (low-lanes c.args.v c.fits-v.0) (low-small c.args.v)

pub returns : goal.returns
returns c =
    let looked = look-lanes c.args.set.now _ _ (low-lanes c.args.v c.fits-v.0) (low-small c.args.v) in
    let both = lanes-zip2 bit_and _ c.args.columns looked.long c.fits-columns.0 in
    record { long = both.long; each = λ k l. both.each k l ∙ ap (λ x. bit_and x (get_or c.args.columns k 0)) (looked.each k l) }
