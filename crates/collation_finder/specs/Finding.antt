-- What a finder of ranges represents, while the characters of a text come.
use Rattle.std.specs.Prelude.{◌≡◌, ℕ, ◌+◌, false, None, List, ◌++◌, length}
use Rattle.nfd_points.specs.declared.points.Point.{Point}
use Rattle.nfd_points.specs.declared.limits.TheConstants.{MOST_GIVEN}
use Rattle.nfd_points.specs.Points.{points}
use Rattle.nfd_points.specs.PointFaults.{point_fault}
use Rattle.nfd_points.specs.Reordering.{HasReordered}
use Rattle.collation_table.specs.Table.{TableMap, longest_mapped}
use Rattle.collation_elements.specs.Items.{items}
use Rattle.collation_elements.specs.Units.{units}
use Rattle.collation_elements.specs.Weighing.{weigher as weigher_of}
use Rattle.collation_pattern.specs.Compiled.{Compiled}
use Rattle.collation_states.specs.declared.read_state.ReadState.{ReadState}
use Rattle.collation_states.specs.Reading.{places_in}
use Rattle.collation_walk.specs.Kept.{saved_places}
use Rattle.collation_walk.specs.Walked.{HasWalked}
use Rattle.collation_walk.specs.Walks.{WalksOver}
use Rattle.collation_finder.specs.declared.finder.Finder.{Finder}
use Rattle.collation_finder.specs.Matching.{HasMatched}

-- the code points were taken, and the ranges came out
pub record FinderStandsFor (table : TableMap) (pattern : Compiled) (finder : Finder) (taken : List ℕ) (ranges : List (ℕ × ℕ)) : Type 0 where
  pub points : List Point
  pub reordered : HasReordered finder.reorder taken points
  pub matched : HasMatched table pattern finder.window finder.matcher points ranges

-- it has room for the points that the table's longest key asks for, and for the places of as many keys as the pattern has
pub record IsMadeFor (table : TableMap) (pattern : Compiled) (finder : Finder) : Type 0 where
  pub longest : finder.window.capacity ≡ longest_mapped table + MOST_GIVEN
  pub pattern_len : finder.matcher.walk.places.capacity ≡ length pattern.keys

-- and its text has not ended
pub record IsReady (table : TableMap) (pattern : Compiled) (finder : Finder) : Type 0 where
  pub open_text : finder.window.has_ended ≡ false
  pub made : IsMadeFor table pattern finder

-- its room is as before, and so is the kind of ranges that it hands out
pub record KeepsSetup (old new : Finder) : Type 0 where
  pub longest : new.window.capacity ≡ old.window.capacity
  pub pattern_len : new.matcher.walk.places.capacity ≡ old.matcher.walk.places.capacity
  pub select : new.matcher.walk.select ≡ old.matcher.walk.select

-- and its text has not ended
pub record StaysOpen (old new : Finder) : Type 0 where
  pub open_text : new.window.has_ended ≡ false
  pub setup : KeepsSetup old new

-- all units of the text were cut, as at its end, and the ranges before the last cluster came out
pub record EndsText (table : TableMap) (pattern : Compiled) (old new : Finder) (found : List (ℕ × ℕ)) : Type 0 where
  pub walked : (taken : List ℕ) (ranges : List (ℕ × ℕ)) → FinderStandsFor table pattern old taken ranges →
      HasWalked table pattern new.matcher (units table (points taken)) (ranges ++ found)
  pub ended : (taken : List ℕ) (ranges : List (ℕ × ℕ)) → FinderStandsFor table pattern old taken ranges →
      WalksOver pattern.keys (items table pattern.strength pattern.variable false (units table (points taken))) (ranges ++ found) new.matcher.walk
  pub good : (taken : List ℕ) (ranges : List (ℕ × ℕ)) → FinderStandsFor table pattern old taken ranges → point_fault taken ≡ None

-- it goes on from what a state says
pub record RestoresState (pattern : Compiled) (saved : ReadState) (old new : Finder) : Type 0 where
  pub held : new.reorder.held ≡ saved.waiting.items
  pub window : new.window ≡ record { points = saved.window.items; capacity = old.window.capacity; has_ended = false }
  pub weigher : new.matcher.weigher ≡ weigher_of pattern.strength pattern.variable saved.after_variable
  pub state : new.matcher.walk.state ≡ length new.matcher.walk.places.items
  pub start : new.matcher.walk.start ≡ saved.start
  pub has_keys : new.matcher.walk.has_keys ≡ saved.has_keys
  pub places : saved_places new.matcher.walk.places.items ≡ places_in saved.places.now
  pub last_end : new.matcher.walk.last_end ≡ saved.last_end
  pub setup : KeepsSetup old new
