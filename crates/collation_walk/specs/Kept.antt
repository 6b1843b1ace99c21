-- What a walk keeps of the keys, as a state says it.
use Rattle.std.specs.Prelude.{ℕ, ◌-◌, Bool, false, ◌&&◌, ◌==◌, List, length, map, slice_get, Option, None, Some}
use Rattle.circular_buffer.specs.Buffer.{keep_last}
use Rattle.collation_states.specs.State.{SavedPlace}
use Rattle.collation_walk.specs.declared.walk.KeyPlace.{KeyPlace}
use Rattle.collation_walk.specs.declared.walk.Walk.{Walk}

-- the places of the last keys, as many as the state says, oldest first
abbrev pub kept_places : Walk → List KeyPlace
kept_places walk = keep_last walk.state walk.places.items

abbrev pub saved_places : List KeyPlace → List SavedPlace
saved_places = map (λ place. record { start = place.start; is_first = place.is_first })

abbrev pub is_first_place : Option KeyPlace → Bool
is_first_place None = false
is_first_place (Some place) = place.is_first

-- a match waits for the end of the current cluster: that has keys, the whole pattern ends the keys so far, and the first of
-- those keys is the first of its cluster
abbrev pub match_waits : ℕ → Walk → Bool
match_waits pattern_len walk =
    let oldest = slice_get walk.places.items (length walk.places.items - walk.state) in
    walk.has_keys && (walk.state == pattern_len && is_first_place oldest)
