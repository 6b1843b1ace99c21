-- What resuming a search from words means.
use Rattle.std.specs.Prelude.{◌≡◌, ◌⊎◌, ℕ, ◌+◌, false, List, length, Option, None, Some, Result, Ok, IfErr}
use Rattle.nfd_points.specs.declared.limits.TheConstants.{MOST_GIVEN}
use Rattle.collation_table.specs.Table.{longest_mapped}
use Rattle.collation_table.specs.declared.lookup.Weights.{Ghosts}
use Rattle.collation_elements.specs.Weighing.{weigher}
use Rattle.collation_matches.specs.declared.faults.TextFault.{TextFault}
use Rattle.collation_matches.specs.Sought.{Sought}
use Rattle.collation_states.specs.declared.faults.StateFault.{StateFault}
use Rattle.collation_states.specs.declared.states.Sizes.{Sizes}
use Rattle.collation_states.specs.State.{State}
use Rattle.collation_states.specs.StateTests.{state_fault}
use Rattle.collation_finder.specs.declared.finder.Finder.{Finder}
use Rattle.collation_search.specs.declared.search.Search.{Search}
use Rattle.collation_search.specs.Search.{sought, HasSearched, HasReported}
use Rattle.collation_search.specs.State.{saved_places, words_of}

-- The words are those of a search for the same that has taken the bytes and handed out the ranges.
abbrev pub AreSaved : {W : Type 0} {G : Ghosts W} → Search W G → Sought → List ℕ → List ℕ → List (ℕ × ℕ) → Type 0
AreSaved {W} {G} saved s words taken handed = (sought saved ≡ s) × (words ≡ words_of saved) × HasSearched saved taken handed

-- The words are those of a search for the same that has reported the fault.
abbrev pub AreSavedAfter : {W : Type 0} {G : Ghosts W} → Search W G → Sought → List ℕ → TextFault → Type 0
AreSavedAfter {W} {G} saved s words fault = (sought saved ≡ s) × (words ≡ words_of saved) × HasReported saved fault

-- What a search was resumed from is what it goes on with: it represents all that a search represented whose words these are.
pub record IsResumedFrom {W : Type 0} {G : Ghosts W} (resumed : Search W G) (s : Sought) (words : List ℕ) : Type 0 where
  pub stands : (saved : Search W G) (taken : List ℕ) (handed : List (ℕ × ℕ)) → AreSaved saved s words taken handed → HasSearched resumed taken handed
  pub reported : (saved : Search W G) (fault : TextFault) → AreSavedAfter saved s words fault → HasReported resumed fault
  pub same : sought resumed ≡ s

-- The search begins with this fault, or with none.
abbrev pub BeginsWithFault : {W : Type 0} {G : Ghosts W} → Search W G → Option TextFault → Type 0
BeginsWithFault {W} {G} resumed fault = resumed.fault ≡ fault

-- What a search saved is refused for want of memory only.
pub record KeepsSaved {W : Type 0} {G : Ghosts W} (result : Result (Search W G) StateFault) (s : Sought) (words : List ℕ) : Type 0 where
  pub searched : (saved : Search W G) (taken : List ℕ) (handed : List (ℕ × ℕ)) → AreSaved saved s words taken handed → IfErr result (λ f. f.kind ≡ 53)
  pub reported : (saved : Search W G) (fault : TextFault) → AreSavedAfter saved s words fault → IfErr result (λ f. f.kind ≡ 53)

-- What a search saved is not refused where no memory is asked for.
pub record AcceptsSaved {W : Type 0} (G : Ghosts W) (result : Result (Unit {0}) StateFault) (s : Sought) (words : List ℕ) : Type 0 where
  pub searched : (saved : Search W G) (taken : List ℕ) (handed : List (ℕ × ℕ)) → AreSaved saved s words taken handed → result ≡ Ok tt
  pub reported : (saved : Search W G) (fault : TextFault) → AreSavedAfter saved s words fault → result ≡ Ok tt

-- Words are refused for the first test that they fail, or, where they are a state, for want of memory.
abbrev pub IsRefused : Sizes → List ℕ → ℕ → Type 0
IsRefused r words kind = (state_fault r words ≡ Some kind) ⊎ ((kind ≡ 53) × (state_fault r words ≡ None))

-- the finder that a state says
pub record IsRestored (s : Sought) (state : State) (finder : Finder) : Type 0 where
  pub held : finder.reorder.held ≡ state.waiting
  pub window : finder.window ≡ record { points = state.window; capacity = longest_mapped s.table + MOST_GIVEN; has_ended = false }
  pub weigher : finder.matcher.weigher ≡ Rattle.collation_elements.specs.Weighing.weigher s.pattern.strength s.pattern.variable state.after_variable
  pub matched : finder.matcher.walk.state ≡ length finder.matcher.walk.places.items
  pub start : finder.matcher.walk.start ≡ state.start
  pub has_keys : finder.matcher.walk.has_keys ≡ state.has_keys
  pub places : saved_places finder.matcher.walk.places.items ≡ state.places
  pub capacity : finder.matcher.walk.places.capacity ≡ length s.pattern.keys
  pub select : finder.matcher.walk.select ≡ s.select
  pub last_end : finder.matcher.walk.last_end ≡ state.last_end
