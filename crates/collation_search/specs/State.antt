-- What a search holds, as a state says it.
use Rattle.std.specs.Prelude.{ℕ, List, length, Option, None, Some}
use Rattle.utf8_cut.specs.Value.{CutState}
use Rattle.collation_table.specs.Table.{longest_mapped, most_elements}
use Rattle.collation_table.specs.declared.lookup.Weights.{Ghosts}
use Rattle.collation_elements.specs.Weighing.{is_after_variable}
use Rattle.collation_pattern.specs.Compiled.{Compiled}
use Rattle.collation_matches.specs.declared.faults.TextFault.{TextFault}
use Rattle.collation_matches.specs.Sought.{Sought}
use Rattle.collation_states.specs.declared.states.Sizes.{Sizes}
use Rattle.collation_states.specs.State.{State, reported, words}
use Rattle.collation_finder.specs.declared.finder.Finder.{Finder}
use Rattle.collation_search.specs.declared.search.Search.{Search}
use Rattle.collation_search.specs.Search.{sought}
pub use Rattle.collation_walk.specs.Kept.{kept_places, saved_places, is_first_place, match_waits}

-- the sizes and the settings of what is looked for
abbrev pub sizes_of : Sought → Sizes
sizes_of s = record {
  pattern_len = length s.pattern.keys;
  longest_key = longest_mapped s.table;
  most_elements = most_elements s.table;
  strength = s.pattern.strength;
  variable = s.pattern.variable;
  select = s.select;
}

abbrev pub open_state : Compiled → CutState → Finder → State
open_state pattern cut finder = record {
  taken = cut.count;
  fault = None;
  held = cut.held;
  after_variable = is_after_variable finder.matcher.weigher;
  start = finder.matcher.walk.start;
  has_keys = finder.matcher.walk.has_keys;
  waits = match_waits (length pattern.keys) finder.matcher.walk;
  last_end = finder.matcher.walk.last_end;
  places = saved_places (kept_places finder.matcher.walk);
  window = finder.window.points;
  waiting = finder.reorder.held;
}

abbrev pub state_of : Compiled → CutState → Finder → Option TextFault → State
state_of pattern cut finder None = open_state pattern cut finder
state_of pattern cut finder (Some fault) = reported fault

-- the words of a search
abbrev pub words_of : {W : Type 0} {G : Ghosts W} → Search W G → List ℕ
words_of search = words (sizes_of (sought search)) (state_of search.query.pattern.now search.cut search.finder.value search.fault)
