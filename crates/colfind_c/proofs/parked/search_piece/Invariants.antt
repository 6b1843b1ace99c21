use Rattle.std.proofs.Common.{◌≡◌, ℕ, List, ◌++◌, length}
use Rattle.colfind_c.specs.Queues.{Gets}
use Rattle.colfind_c.proofs.ParkedLemmas.{HasGoneOn}
use Rattle.colfind_c.proofs.parked.search_piece.Given as goal

abbrev pub invariant-loop-rest : goal.invariant-loop-rest
invariant-loop-rest g l = (done : List ℕ) × (found : List (ℕ × ℕ)) × (l.piece ≡ done ++ l.rest) × HasGoneOn l.fn.search done found l.search × Gets l.fn.queue found l.queue

abbrev pub decreases-loop-rest : goal.decreases-loop-rest
decreases-loop-rest g l = length l.rest
