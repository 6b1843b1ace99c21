use Rattle.std.proofs.Common.{take}
use Rattle.colfind_c.specs.Queues.{Gets}
use Rattle.colfind_c.proofs.queue.Queue.put_all.Given as goal

abbrev pub invariant-loop-start : goal.invariant-loop-start
invariant-loop-start l = Gets l.initial.self (take l.start-index l.ranges) l.self
