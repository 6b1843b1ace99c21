use Rattle.std.proofs.Common.{◌≡◌, length}
use Rattle.colfind_io.specs.Writing.{WritesPrefix}
use Rattle.colfind_io.proofs.writing.write_all.Given as goal

-- what was written, and what is left to write
abbrev pub invariant-loop-rest : goal.invariant-loop-rest
invariant-loop-rest g l =
    (g.O.Target.failures l.out ≡ g.O.Target.failures l.fn.out)
    × ((prefix : WritesPrefix (g.O.Target.held l.fn.out) (g.O.Target.held l.out) l.bytes) × (prefix.rest ≡ l.rest))

abbrev pub decreases-loop-rest : goal.decreases-loop-rest
decreases-loop-rest g l = length l.rest
