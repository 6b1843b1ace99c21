-- What holds of the ranges found cluster by cluster.
use Rattle.std.specs.Prelude.{◌≡◌, ℕ, ◌-◌, ◌<◌, ◌≤◌, Bool, true, ◌==◌, List, [], ◌∷◌, ◌++◌, map, filter, length, drop, if◌then◌else◌}
use Rattle.std.specs.Bool.{Decides}
use Rattle.std.specs.List.Sorted.{IsStrictlyIncreasing}
use Rattle.collation_elements.specs.declared.keys.Key.{Key}
use Rattle.collation_elements.specs.Clusters.{Cluster, starts, start_or, joined}
use Rattle.std.specs.Str.{IsUtf8}
use Rattle.collation_table.specs.Table.{TableMap}
use Rattle.collation_elements.specs.declared.settings.Variable.{Variable}
use Rattle.collation_elements.specs.declared.settings.Strength.{Strength}
use Rattle.collation_elements.specs.Clusters.{clusters, clusters_of}
use Rattle.collation_pattern.specs.Levels.{text_keys}
use Rattle.collation_pattern.specs.Border.{border}
use Rattle.collation_matches.specs.ByClusters.{PlacedKey}
use Rattle.collation_matches.specs.Matches.{ranges_among, minimal, matches, settled}
use Rattle.collation_matches.specs.ByClusters.{last_has_keys, ended, found, found_before_last, placed, range_from, ended_by_keys, text_items}

-- Of all ranges between boundaries whose clusters have the pattern's keys, those with no other one within them are those
-- found cluster by cluster, in the same order. `test` says whether the clusters of a range have these keys.
abbrev pub minimal_ranges_are_found : Type 0
minimal_ranges_are_found =
    (test : ℕ × ℕ → Bool) (pattern : List Key) (cs : List Cluster) (end : ℕ) →
    0 < length pattern →
    IsStrictlyIncreasing (starts cs ++ end ∷ []) →
    ((before inside after : List Cluster) → cs ≡ before ++ (inside ++ after) →
    Decides (test (start_or end (inside ++ after), start_or end after)) (joined inside ≡ pattern)) →
    minimal (filter test (ranges_among (starts cs ++ end ∷ []))) ≡ found pattern cs end

-- One cluster more leaves the ranges found so far as they are, and appends the one that ends with it.
abbrev pub one_cluster_more : Type 0
one_cluster_more =
    (pattern : List Key) (cs : List Cluster) (c : Cluster) (end : ℕ) →
    found pattern (cs ++ c ∷ []) end ≡ found pattern cs c.start ++ ended pattern (cs ++ c ∷ []) end

abbrev pub one_range_ends : Type 0
one_range_ends = (pattern : List Key) (cs : List Cluster) (end : ℕ) → length (ended pattern cs end) ≤ 1

-- Those that end with the clusters but the last one are those of the clusters before it.
abbrev pub last_cluster_left_out : Type 0
last_cluster_left_out =
    (pattern : List Key) (cs : List Cluster) (c : Cluster) (end : ℕ) →
    found_before_last pattern (cs ++ c ∷ []) end ≡ found pattern cs c.start

-- Whatever clusters follow, the ranges found so far begin the list.
abbrev pub found_ranges_stay : Type 0
found_ranges_stay =
    (pattern : List Key) (cs : List Cluster) (c : Cluster) (following : List Cluster) (end : ℕ) →
    (rest : List (ℕ × ℕ)) × (found pattern (cs ++ c ∷ following) end ≡ found pattern cs c.start ++ rest)

-- Where the last cluster has keys, the range that ends with it is decided by the last keys and where they stand.
abbrev pub last_keys_decide : Type 0
last_keys_decide =
    (pattern : List Key) (cs : List Cluster) (end : ℕ) →
    last_has_keys cs ≡ true → ended pattern cs end ≡ ended_by_keys pattern (placed cs) end

-- The last keys are the pattern's exactly where the whole pattern is the longest prefix of it that ends the keys.
abbrev pub border_decides : Type 0
border_decides =
    (pattern : List Key) (ks : List PlacedKey) (end : ℕ) →
    ended_by_keys pattern ks end
    ≡ (let state = border pattern (map (λ k. k.key) ks) in
    let ranges = range_from (drop (length ks - length pattern) ks) end in
    if state == length pattern then ranges else [])

-- Matches, which compare the sort keys of all parts between boundaries, each part taken as a text by itself, are the ranges
-- that are found by the keys of the whole text's clusters.
abbrev pub matches_are_found : TableMap → Type 0
matches_are_found table =
    (strength : Strength) (variable : Variable) (pattern text : List ℕ) →
    IsUtf8 pattern → IsUtf8 text → 0 < length (text_keys table strength variable pattern) →
    matches table strength variable pattern text
    ≡ found (text_keys table strength variable pattern) (clusters table strength variable text) (length text)

-- The clusters of a text may be read off its items, which for the empty text gives one cluster without keys.
abbrev pub items_give_ranges : TableMap → Type 0
items_give_ranges table =
    (strength : Strength) (variable : Variable) (pattern : List Key) (text : List ℕ) (end : ℕ) →
    (found pattern (clusters table strength variable text) end ≡ found pattern (clusters_of (text_items table strength variable text)) end)
    × (found_before_last pattern (clusters table strength variable text) end
    ≡ found_before_last pattern (clusters_of (text_items table strength variable text)) end)

-- Those that are settled are the ones that end with a cluster before the last one.
abbrev pub settled_are_found : TableMap → Type 0
settled_are_found table =
    (strength : Strength) (variable : Variable) (pattern text : List ℕ) →
    IsUtf8 pattern → IsUtf8 text → 0 < length (text_keys table strength variable pattern) →
    settled table strength variable pattern text
    ≡ found_before_last (text_keys table strength variable pattern) (clusters table strength variable text) (length text)
