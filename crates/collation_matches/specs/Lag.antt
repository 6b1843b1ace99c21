-- How far what a search over a stream hands out may lag behind the code points that it has taken.
use Rattle.std.specs.Prelude.{◌≡◌, ℕ, ◌+◌, ◌<◌, ◌≤◌, true, false, nat_le, Contains, List, ◌++◌, length, filter}
use Rattle.std.specs.Str.{chars, IsUtf8}
use Rattle.utf8_cut.specs.Characters.{with_offsets}
use Rattle.nfd_points.specs.declared.limits.TheConstants.{MOST_WAITING}
use Rattle.nfd_points.specs.declared.points.Point.{Point}
use Rattle.nfd_points.specs.Reordering.{Waiting, HasReordered}
use Rattle.collation_table.specs.Table.{TableMap, longest_mapped}
use Rattle.collation_elements.specs.declared.settings.Variable.{Variable}
use Rattle.collation_elements.specs.declared.settings.Strength.{Strength}
use Rattle.collation_elements.specs.declared.keys.Key.{Key}
use Rattle.collation_elements.specs.declared.keys.Item.{Item}
use Rattle.collation_elements.specs.Items.{items}
use Rattle.collation_elements.specs.Clusters.{Cluster, clusters, clusters_from}
use Rattle.collation_elements.specs.Windows.{Held, WindowStandsFor}
use Rattle.collation_pattern.specs.Levels.{text_keys}
use Rattle.collation_matches.specs.Answer.{answer}
use Rattle.collation_matches.specs.GoodPrefix.{whole, is_good_so_far}
use Rattle.collation_matches.specs.Matches.{matches}
use Rattle.collation_matches.specs.ByClusters.{text_begin, found, found_before_last}

-- how many of the code points of a text begin at a byte offset or after it
abbrev pub code_points_from : ℕ → List ℕ → ℕ
code_points_from offset cs = length (filter (λ c. nat_le offset c.1) (with_offsets 0 cs))

-- A search that is under way: the code points `taken` went into a reorderer, the points that it gave into a window, and the
-- units that were cut from there, whatever items follow, make the clusters `ended` and then those from the current one on.
pub record HasReadClusters (table : TableMap) (strength : Strength) (variable : Variable) (taken : List ℕ) (waiting : Waiting) (window : Held) (ended : List Cluster) (current : Cluster) : Type 0 where
  pub given : List Point
  pub units : List (List Point)
  pub reordered : HasReordered waiting taken given
  pub cut : WindowStandsFor table window given units
  pub goes_on : window.has_ended ≡ false
  pub clusters : (rest : List Item) → clusters_from text_begin (items table strength variable false units ++ rest) ≡ ended ++ clusters_from current rest

-- However the text goes on, each of its ranges is among those of the clusters that have ended, once as many code points from
-- its end on were taken as the window holds points, and one more than the most that wait.
abbrev pub ranges_are_found_in_time : Type 0
ranges_are_found_in_time =
    (table : TableMap) (strength : Strength) (variable : Variable) (pattern : List Key) (text taken more : List ℕ)
    (waiting : Waiting) (window : Held) (ended : List Cluster) (current : Cluster) (range : ℕ × ℕ) →
    IsUtf8 text → chars text ≡ taken ++ more →
    HasReadClusters table strength variable taken waiting window ended current →
    length window.points + (MOST_WAITING + 1) ≤ code_points_from range.1 taken →
    Contains (found pattern (clusters table strength variable text) (length text)) range →
    Contains (found pattern ended current.start) range

-- And so those that end before the last cluster.
abbrev pub settled_ranges_are_found_in_time : Type 0
settled_ranges_are_found_in_time =
    (table : TableMap) (strength : Strength) (variable : Variable) (pattern : List Key) (text taken more : List ℕ)
    (waiting : Waiting) (window : Held) (ended : List Cluster) (current : Cluster) (range : ℕ × ℕ) →
    IsUtf8 text → chars text ≡ taken ++ more →
    HasReadClusters table strength variable taken waiting window ended current →
    length window.points + (MOST_WAITING + 1) ≤ code_points_from range.1 taken →
    Contains (found_before_last pattern (clusters table strength variable text) (length text)) range →
    Contains (found pattern ended current.start) range

-- Where the window holds at most as many points as the longest key, each minimal match of the text is among the ranges of the
-- clusters that have ended, once as many code points from its end on were taken as the longest key has points, and one more than the
-- most that wait.
abbrev pub matches_are_found_in_time : TableMap → Type 0
matches_are_found_in_time table =
    (strength : Strength) (variable : Variable) (pattern text taken more : List ℕ)
    (waiting : Waiting) (window : Held) (ended : List Cluster) (current : Cluster) (range : ℕ × ℕ) →
    IsUtf8 pattern → 0 < length (text_keys table strength variable pattern) →
    IsUtf8 text → chars text ≡ taken ++ more →
    HasReadClusters table strength variable taken waiting window ended current →
    length window.points ≤ longest_mapped table →
    longest_mapped table + (MOST_WAITING + 1) ≤ code_points_from range.1 taken →
    Contains (matches table strength variable pattern text) range →
    Contains (found (text_keys table strength variable pattern) ended current.start) range

-- The bytes `taken` are open, and the code points of their whole characters went into the search. However the bytes go on, each
-- range of the answer is among those of the clusters that have ended, once that many code points from its end on were taken.
abbrev pub answers_are_found_in_time : TableMap → Type 0
answers_are_found_in_time table =
    (strength : Strength) (variable : Variable) (pattern taken later : List ℕ)
    (waiting : Waiting) (window : Held) (ended : List Cluster) (current : Cluster) (range : ℕ × ℕ) →
    IsUtf8 pattern → 0 < length (text_keys table strength variable pattern) →
    is_good_so_far taken ≡ true →
    HasReadClusters table strength variable (chars (whole taken)) waiting window ended current →
    length window.points ≤ longest_mapped table →
    longest_mapped table + (MOST_WAITING + 1) ≤ code_points_from range.1 (chars (whole taken)) →
    Contains (answer table strength variable pattern (taken ++ later)).ranges range →
    Contains (found (text_keys table strength variable pattern) ended current.start) range
