-- What a search represents that was put away without its table and its pattern.
use Rattle.std.specs.Prelude.{ℕ, List, Option}
use Rattle.collation_table.specs.Table.{TableMap}
use Rattle.collation_pattern.specs.Compiled.{Compiled}
use Rattle.collation_matches.specs.declared.faults.TextFault.{TextFault}
use Rattle.collation_matches.specs.declared.select.Select.{Select}
use Rattle.collation_matches.specs.Sought.{Sought}
use Rattle.collation_states.specs.State.{words}
use Rattle.collation_search.specs.declared.parking.Parked.{Parked}
use Rattle.collation_finder.specs.Caches.{IsCacheRight}
use Rattle.collation_finder.specs.Finding.{IsMadeFor}
use Rattle.collation_search.specs.Searching.{Searched}
use Rattle.collation_search.specs.State.{sizes_of, state_of}

-- which ranges it hands out, and the fault that it has reported
abbrev pub parked_select : Parked → Select
parked_select parked = parked.finder.value.matcher.walk.select

abbrev pub parked_fault : Parked → Option TextFault
parked_fault parked = parked.fault

-- It was put away by a search with this table and this pattern.
pub record IsFor (table : TableMap) (pattern : Compiled) (parked : Parked) : Type 0 where
  pub right : IsCacheRight table pattern parked.cache.value
  pub made : IsMadeFor table pattern parked.finder.value

-- the bytes went in and the ranges were handed out, as of a search (`HasSearched`)
abbrev pub HasParked : Sought → Parked → List ℕ → List (ℕ × ℕ) → Type 0
HasParked s parked taken handed = Searched s.table s.pattern parked.cut parked.finder.value parked.fault taken handed

-- the words that are saved of it
abbrev pub parked_words : Sought → Parked → List ℕ
parked_words s parked = words (sizes_of s) (state_of s.pattern parked.cut parked.finder.value parked.fault)
