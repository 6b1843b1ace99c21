use Rattle.std.specs.Prelude.{◌≤◌}
use Rattle.collation_skip.proofs.two_byte_sets.halts.Given as goal

abbrev pub invariant-loop-block : goal.invariant-loop-block
invariant-loop-block l = l.count ≤ l.block
