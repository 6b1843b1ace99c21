-- The places so far were kept, and those of the records that are left come after them.
use Rattle.std.proofs.Common.{◌≡◌, ◌≤◌, ◌*◌, ◌+◌, ◌++◌, length}
use Rattle.collation_states.specs.Reading.{places_in}
use Rattle.collation_walk.specs.Kept.{saved_places}
use Rattle.collation_walk.proofs.resuming.keep_places.Given as goal

abbrev pub invariant-loop-rest : goal.invariant-loop-rest
invariant-loop-rest l = record {
  places : saved_places l.kept.items ++ places_in l.rest ≡ places_in l.places;
  many : 4 * length l.kept.items + length l.rest ≤ length l.places;
  capacity : l.kept.capacity ≡ l.fn.kept.capacity;
}

abbrev pub decreases-loop-rest : goal.decreases-loop-rest
decreases-loop-rest l = length l.rest
