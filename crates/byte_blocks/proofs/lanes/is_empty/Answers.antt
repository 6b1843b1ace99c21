use Rattle.byte_blocks.proofs.LaneLemmas.{in-none}
use Rattle.byte_blocks.proofs.lanes.is_empty.Goals as goal

pub returns : goal.returns
returns c = λ yes byte. in-none c.args.set.now c.load.result c.load.ensures (c.is_zero.ensures.0 yes) byte
