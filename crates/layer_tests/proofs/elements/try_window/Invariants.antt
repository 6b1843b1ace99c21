use Rattle.std.proofs.Common.{◌≡◌, false}
use Rattle.layer_tests.proofs.elements.try_window.Given as goal

abbrev pub invariant-loop-offset : goal.invariant-loop-offset
invariant-loop-offset l = l.window.has_ended ≡ false
