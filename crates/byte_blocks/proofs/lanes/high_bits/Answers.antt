use Rattle.std.proofs.Common.{bit_and}
use Rattle.byte_blocks.proofs.LaneLemmas.{lanes-splat}
use Rattle.byte_blocks.proofs.lanes.high_bits.Goals as goal

pub returns : goal.returns
returns c = lanes-splat bit_and c.args.v 128 c.fits-v.0
