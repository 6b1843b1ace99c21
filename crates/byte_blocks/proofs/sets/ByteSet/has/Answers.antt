use Rattle.byte_blocks.proofs.sets.ByteSet.has.Goals as goal

pub returns : goal.returns
returns c = rw c.in_set.ensures
