-- What a search has reported and what it holds after some bytes: functions of what is sought and of these bytes alone, however they
-- were cut into pieces.
use Rattle.std.specs.Prelude.{◌≡◌, ℕ, ◌-◌, false, nat_lt, List, [], ◌∷◌, length, map, drop, Option, None, Some, if◌then◌else◌}
use Rattle.std.specs.Str.{chars}
use Rattle.utf8_cut.specs.Characters.{after_characters}
use Rattle.nfd_points.specs.declared.points.Point.{Point}
use Rattle.nfd_points.specs.Points.{points}
use Rattle.collation_table.specs.Table.{TableMap}
use Rattle.collation_elements.specs.Clusters.{Cluster, clusters_of}
use Rattle.collation_elements.specs.Decided.{decided_units, left_points}
use Rattle.collation_elements.specs.Items.{items}
use Rattle.collation_elements.specs.Units.{units}
use Rattle.collation_elements.specs.Weighing.{after_units}
use Rattle.collation_pattern.specs.Border.{border}
use Rattle.collation_matches.specs.declared.faults.TextFault.{TextFault}
use Rattle.collation_matches.specs.ByClusters.{PlacedKey, text_begin, has_keys, ended, found_before_last, placed}
use Rattle.collation_matches.specs.GoodPrefix.{fault, good_prefix, is_good_so_far, whole}
use Rattle.collation_matches.specs.Selecting.{selected, remembered}
use Rattle.collation_matches.specs.Sought.{Sought}
use Rattle.collation_states.specs.State.{SavedPlace, State, reported}
pub use Rattle.collation_finder.specs.Early.{final_points}

-- ---- points

-- the points that are not final, and wait for the next starter or the end of the text
abbrev pub waiting_points : List ℕ → List Point
waiting_points cs = drop (length (final_points cs)) (points cs)

-- ---- what is known after some bytes

-- the fault that stands in the bytes, whatever follows them
abbrev pub fault_so_far : List ℕ → Option TextFault
fault_so_far u = if is_good_so_far u then None else fault u

-- the units that are decided, or, where a fault stands, at which the text counts as ended, all units before it
abbrev pub known_units : TableMap → List ℕ → List (List Point)
known_units table u =
    let decided = decided_units table (final_points (chars (whole u))) in
    let all = units table (points (chars (good_prefix u))) in
    if is_good_so_far u then decided else all

-- their clusters, of which the last one has not ended
abbrev pub known_clusters : Sought → List ℕ → List Cluster
known_clusters s u = clusters_of (items s.table s.pattern.strength s.pattern.variable false (known_units s.table u))

-- the ranges that are reported by then: those that end with a cluster which has ended, or the chain of them
abbrev pub reported_after : Sought → List ℕ → List (ℕ × ℕ)
reported_after s u = selected s.select (found_before_last s.pattern.keys (known_clusters s u) (length u))

-- the ranges and the fault, or none, are what is reported by then
abbrev pub IsReported : Sought → List ℕ → List (ℕ × ℕ) → Option TextFault → Type 0
IsReported s u ranges fault = (ranges ≡ reported_after s u) × (fault ≡ fault_so_far u)

-- ---- the state

abbrev pub last_cluster : List Cluster → Cluster
last_cluster [] = text_begin
last_cluster (c ∷ []) = c
last_cluster (c ∷ d ∷ cs) = last_cluster (d ∷ cs)

-- the places of the last keys, as many as match a prefix of the pattern
abbrev pub last_places : Sought → List PlacedKey → List SavedPlace
last_places s ks =
    let matched = border s.pattern.keys (map (λ k. k.key) ks) in
    map (λ k. record { start = k.start; is_first = k.is_first }) (drop (length ks - matched) ks)

-- where no fault stands in the bytes
abbrev pub open_after : Sought → List ℕ → State
open_after s u =
    let cs = chars (whole u) in
    let clusters = known_clusters s u in
    let current = last_cluster clusters in
    record {
      taken = length u;
      fault = None;
      held = after_characters u;
      after_variable = after_units s.table s.pattern.variable false (known_units s.table u);
      start = current.start;
      has_keys = has_keys current;
      waits = nat_lt 0 (length (ended s.pattern.keys clusters (length u)));
      last_end = remembered s.select (reported_after s u);
      places = last_places s (placed clusters);
      window = left_points s.table (final_points cs);
      waiting = waiting_points cs;
    }

abbrev pub state_at : Sought → List ℕ → Option TextFault → State
state_at s u None = open_after s u
state_at s u (Some at) = reported at

-- what a search for this holds after the bytes
abbrev pub state_after : Sought → List ℕ → State
state_after s u = state_at s u (fault_so_far u)
