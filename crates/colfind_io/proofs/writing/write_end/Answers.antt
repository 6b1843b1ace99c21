use Rattle.std.proofs.Common.{arith}
use Rattle.colfind_io.proofs.writing.write_end.Goals as goal

pub returns-clause-flushed : goal.returns-clause-flushed
returns-clause-flushed g c = c.flush.ensures.flushed

pub returns-clause-count : goal.returns-clause-count
returns-clause-count g c = omega (arith, c.in_ok-write_all.ensures.count, c.flush.ensures.count)
