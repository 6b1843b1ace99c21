use Rattle.colfind_io.proofs.streams.ToWriteTarget.write.Goals as goal

pub returns-else-count-eq0-clause-writer : goal.returns-else-count-eq0-clause-writer
returns-else-count-eq0-clause-writer g c = rw c.in-Ok.is at c.write.ensures.bytes
