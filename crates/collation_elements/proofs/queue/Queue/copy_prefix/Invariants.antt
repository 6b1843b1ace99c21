use Rattle.std.proofs.Common.{◌≡◌, take}
use Rattle.collation_elements.specs.Units.{code_points}
use Rattle.collation_elements.proofs.queue.Queue.copy_prefix.Given as goal

abbrev pub invariant-loop-i : goal.invariant-loop-i
invariant-loop-i l = l.prefix.items ≡ take l.i (code_points l.self.items)
