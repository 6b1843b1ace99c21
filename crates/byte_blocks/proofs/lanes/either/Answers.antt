use Rattle.std.proofs.Common.{bit_or}
use Rattle.byte_blocks.proofs.LaneLemmas.{lanes-zip2}
use Rattle.byte_blocks.proofs.lanes.either.Goals as goal

pub returns : goal.returns
returns c = lanes-zip2 bit_or c.args.a c.args.b c.fits-a.0 c.fits-b.0
