use Rattle.std.proofs.Common.{rules}
use Rattle.colfind_c.proofs.QueueLemmas.{taken_and_left, taken_and_none}
use Rattle.colfind_c.proofs.queue.Queue.take.Goals as goal

pub returns-then-end-len-clause-given : goal.returns-then-end-len-clause-given
returns-then-end-len-clause-given c = taken_and_none c.args.self.now.ranges.items c.args.out.now c.copy_from_slice.new.self c.clear.new.self.items c.args.self.now.taken c.min-count.result (search rules) (search rules) (search rules) (search rules)

pub returns-else-end-len-clause-given : goal.returns-else-end-len-clause-given
returns-else-end-len-clause-given c = taken_and_left c.args.self.now.ranges.items c.args.out.now c.copy_from_slice.new.self c.args.self.now.taken c.min-count.result (search rules) (search rules)
