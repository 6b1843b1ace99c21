use Rattle.std.proofs.Common.{◌≡◌, length}
use Rattle.layer_tests.proofs.dfa.fill.Given as goal

abbrev pub invariant-loop-byte : goal.invariant-loop-byte
invariant-loop-byte l = length l.cells ≡ length l.fn.cells
