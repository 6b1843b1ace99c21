-- From where on ranges are still to come, as a state says it.
use Rattle.std.specs.Prelude.{ℕ, List, [], ◌∷◌}
use Rattle.collation_states.specs.State.{SavedPlace, State}
use Rattle.collation_search.specs.declared.to_come.ToCome.{ToCome}

-- where the oldest of these keys stands, or, without one, where the current cluster starts
abbrev pub oldest_start : ℕ → List SavedPlace → ℕ
oldest_start start [] = start
oldest_start start (place ∷ places) = place.start

-- A range that is to come begins no earlier than the last keys that match a prefix of the pattern, and ends behind the start of the
-- current cluster.
abbrev pub to_come_after : State → ToCome
to_come_after state = record { start = oldest_start state.start state.places; end = state.start }
