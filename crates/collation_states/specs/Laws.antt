-- Which states a search may hold, and that their words are those of a state and say it again.
use Rattle.std.specs.Prelude.{◌≡◌, ◌⊎◌, ℕ, ◌+◌, ◌-◌, ◌*◌, ◌<◌, ◌≤◌, ◌==◌, Bool, true, false, ◌&&◌, List, [], ◌∷◌, length, drop, All as AllOf, None}
use Rattle.utf8_cut.specs.Characters.{is_incomplete_or_empty}
use Rattle.nfd_points.specs.declared.limits.TheConstants.{MOST_WAITING}
use Rattle.nfd_points.specs.declared.points.Point.{Point}
use Rattle.nfd_points.specs.Points.{decomposition}
use Rattle.nfd_points.specs.Reordering.{IsSoundPoint}
use Rattle.collation_matches.specs.declared.faults.TextFault.{TextFault}
use Rattle.collation_matches.specs.declared.select.Select.{Select}
use Rattle.collation_matches.specs.declared.select.Select.TheVariants.{All}
use Rattle.collation_matches.specs.GoodPrefix.{most_bytes}
use Rattle.collation_states.specs.declared.states.Sizes.{Sizes}
use Rattle.collation_states.specs.State.{SavedPlace, State, reported, words}
use Rattle.collation_states.specs.StateTests.{head, head_len, decomposed, may_be_in_window, may_wait, state_fault}
use Rattle.collation_states.specs.Reading.{state_in}

-- no start before `least` nor before the one before it, and none after `most`
abbrev pub AreInOrder : ℕ → ℕ → List SavedPlace → Type 0
AreInOrder least most [] = Unit {0}
AreInOrder least most (place ∷ places) = (least ≤ place.start) × (place.start ≤ most) × AreInOrder place.start most places

abbrev pub begins_with_first : List SavedPlace → Bool
begins_with_first [] = false
begins_with_first (place ∷ places) = place.is_first

-- a point of the text before that offset
pub record IsPointBefore (end : ℕ) (p : Point) : Type 0 where
  pub sound : IsSoundPoint p
  pub itself : decomposition p.cp ≡ p.cp ∷ []
  pub before : p.offset < end

-- a match waits only where the whole pattern has matched, its first key is the first of its cluster, and the current cluster has keys
pub record MayMatchWait (pattern_len : ℕ) (s : State) : Type 0 where
  pub whole : length s.places ≡ pattern_len
  pub first : begins_with_first s.places ≡ true
  pub has_keys : s.has_keys ≡ true

-- where no fault was reported
pub record IsOpen (r : Sizes) (s : State) : Type 0 where
  pub none : s.fault ≡ None
  pub short : s.taken ≤ most_bytes
  pub held : is_incomplete_or_empty s.held ≡ true
  pub within : length s.held ≤ s.taken
  pub start : s.start ≤ s.taken - length s.held
  pub waits : s.waits ≡ true → MayMatchWait r.pattern_len s
  pub last_end : s.last_end ≤ s.start
  pub no_chain : r.select ≡ All → s.last_end ≡ 0
  pub few_places : length s.places ≤ r.pattern_len
  pub few_in_window : length s.window ≤ r.longest_key
  pub few_waiting : length s.waiting ≤ MOST_WAITING
  pub places : AreInOrder 0 s.start s.places
  pub window : AllOf (IsPointBefore (s.taken - length s.held)) s.window
  pub waiting : AllOf (IsPointBefore (s.taken - length s.held)) s.waiting
  pub may_be_in_window : may_be_in_window s.window ≡ true
  pub may_wait : may_wait s.waiting ≡ true

-- where a fault was reported
pub record IsStateAtFault (s : State) : Type 0 where
  pub fault : TextFault
  pub is : s ≡ reported fault
  pub least : 31 ≤ fault.kind
  pub most : fault.kind ≤ 35
  pub short : fault.offset ≤ most_bytes

abbrev pub MayBeHeld : Sizes → State → Type 0
MayBeHeld r s = IsOpen r s ⊎ IsStateAtFault s

-- ---- the words of points

-- each of these records of points has a code point that is its own decomposition
abbrev pub are_decomposed : List ℕ → Bool
are_decomposed (cp ∷ offset ∷ is_first ∷ a ∷ words) = decomposed cp == cp && are_decomposed words
are_decomposed _ = true

-- the records of all points of a state
abbrev pub all_points : Select → List ℕ → List ℕ
all_points select words = drop (4 * (head words).state) (drop (head_len select) words)

-- ---- the laws

abbrev pub StatesAreAccepted : Type 0
StatesAreAccepted = (r : Sizes) (s : State) → MayBeHeld r s → state_fault r (words r s) ≡ None

abbrev pub StatesAreReadBack : Type 0
StatesAreReadBack = (r : Sizes) (s : State) → MayBeHeld r s → state_in r.select (words r s) ≡ s

abbrev pub WordsAreThoseOfTheirState : Type 0
WordsAreThoseOfTheirState = (r : Sizes) (all : List ℕ) → state_fault r all ≡ None → are_decomposed (all_points r.select all) ≡ true → words r (state_in r.select all) ≡ all

abbrev pub StatesAreRecords : Type 0
StatesAreRecords = (r : Sizes) (s : State) → length (words r s) ≡ head_len r.select + 4 * (length s.places + (length s.window + length s.waiting))
