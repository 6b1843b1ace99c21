-- The places so far are right, and the others decide.
use Rattle.std.proofs.Common.{◌≡◌, length}
use Rattle.collation_states.specs.StateTests as tests
use Rattle.collation_states.proofs.states.are_places.Given as goal

abbrev pub invariant-loop-rest : goal.invariant-loop-rest
invariant-loop-rest l = tests.are_places 0 l.fn.most l.fn.words ≡ tests.are_places l.least l.fn.most l.rest

abbrev pub decreases-loop-rest : goal.decreases-loop-rest
decreases-loop-rest l = length l.rest
