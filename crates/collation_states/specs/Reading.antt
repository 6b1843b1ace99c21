-- What the words of a state say.
use Rattle.std.specs.Prelude.{◌≡◌, ℕ, ◌==◌, List, [], ◌∷◌, slice_index, drop, None, if◌then◌else◌}
use Rattle.collation_matches.specs.declared.select.Select.{Select}
use Rattle.collation_matches.specs.declared.select.Select.TheVariants.{All, Chain}
use Rattle.collation_states.specs.declared.states.Head.{Head}
use Rattle.collation_states.specs.declared.read_state.ReadState.{ReadState}
use Rattle.collation_states.specs.State.{SavedPlace, State, reported}
use Rattle.collation_states.specs.StateTests.{head, head_len, bytes_in, points_in, place_part, window_part, waiting_part}

-- where keys stand, by the records of their places
abbrev pub places_in : List ℕ → List SavedPlace
places_in (start ∷ is_first ∷ a ∷ b ∷ words) = record { start = start; is_first = is_first == 1 } ∷ places_in words
places_in _ = []

-- where the last range of a chain ends, by the record after the first five
abbrev pub last_end_in : Select → List ℕ → ℕ
last_end_in All words = 0
last_end_in Chain words = slice_index words 20

-- where no fault was reported, by the head, the bytes held, the end of the last range of a chain, and the words after these
abbrev pub open_of : Head → List ℕ → ℕ → List ℕ → State
open_of h bytes end tail = record {
  taken = h.taken;
  fault = None;
  held = bytes;
  after_variable = h.after_variable == 1;
  start = h.start;
  has_keys = h.has_keys == 1;
  waits = h.waits == 1;
  last_end = end;
  places = places_in (place_part h tail);
  window = points_in (window_part h tail);
  waiting = points_in (waiting_part h tail);
}

abbrev pub open_in : Select → List ℕ → State
open_in select words =
    let h = head words in
    open_of h (bytes_in h.held_len h.held) (last_end_in select words) (drop (head_len select) words)

abbrev pub state_in : Select → List ℕ → State
state_in select words =
    let h = head words in
    if h.kind == 0 then open_in select words else reported (record { kind = h.kind; offset = h.fault_offset })

-- The value that was read says this state.
pub record Says (read : ReadState) (s : State) : Type 0 where
  pub taken : read.taken ≡ s.taken
  pub fault : read.fault ≡ s.fault
  pub held : read.held.items ≡ s.held
  pub after_variable : read.after_variable ≡ s.after_variable
  pub start : read.start ≡ s.start
  pub has_keys : read.has_keys ≡ s.has_keys
  pub waits : read.waits ≡ s.waits
  pub last_end : read.last_end ≡ s.last_end
  pub places : places_in read.places.now ≡ s.places
  pub window : read.window.items ≡ s.window
  pub waiting : read.waiting.items ≡ s.waiting
