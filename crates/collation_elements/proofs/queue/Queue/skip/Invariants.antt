use Rattle.std.proofs.Common.{◌≡◌, drop}
use Rattle.circular_buffer.specs.Buffer.{buffer}
use Rattle.collation_elements.proofs.Queues.{IsQueue}
use Rattle.collation_elements.proofs.queue.Queue.skip.Given as goal

abbrev pub invariant-loop-skipped : goal.invariant-loop-skipped
invariant-loop-skipped l = IsQueue l.self-inside.points × (l.self-inside.points ≡ buffer (drop l.skipped l.fn.self.items) l.fn.self.capacity)
