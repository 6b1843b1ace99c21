use Rattle.byte_blocks.proofs.LaneLemmas.{look-ok, look-lanes, high-lanes, high-small}
use Rattle.byte_blocks.proofs.lanes.high_halves.Goals as goal

pub swizzle : goal.swizzle
swizzle c = look-ok _ _ (high-lanes c.args.v c.fits-v.0) (high-small c.args.v c.fits-v.0 c.fits-v.1)

pub returns : goal.returns
returns c = look-lanes c.args.table.now _ _ (high-lanes c.args.v c.fits-v.0) (high-small c.args.v c.fits-v.0 c.fits-v.1)
