-- Minimal matches found cluster by cluster: at the end of each cluster that has keys a match ends if the keys from the start
-- of some cluster that has keys up to there are the pattern's.
use Rattle.std.specs.Prelude.{ℕ, zero, suc, ◌-◌, Bool, true, false, ◌&&◌, nat_lt, List, [], ◌∷◌, ◌++◌, map, flat_map, length, take, drop, if◌then◌else◌}
use Rattle.std.specs.Str.{chars}
use Rattle.nfd_points.specs.Points.{points}
use Rattle.collation_table.specs.Table.{TableMap}
use Rattle.collation_elements.specs.declared.settings.Variable.{Variable}
use Rattle.collation_elements.specs.declared.settings.Strength.{Strength}
use Rattle.collation_elements.specs.declared.keys.Item.{Item}
use Rattle.collation_elements.specs.Units.{units}
use Rattle.collation_elements.specs.Items.{items}
use Rattle.collation_elements.specs.declared.keys.Key.{Key}
use Rattle.collation_elements.specs.Clusters.{Cluster, start_or, joined}
use Rattle.collation_pattern.specs.Border.{same_keys}

-- the items of a text of bytes
abbrev pub text_items : TableMap → Strength → Variable → List ℕ → List Item
text_items table strength variable text = items table strength variable false (units table (points (chars text)))

-- the cluster with which a text begins
abbrev pub text_begin : Cluster
text_begin = record { start = 0; keys = [] }

abbrev pub has_keys : Cluster → Bool
has_keys c = nat_lt 0 (length c.keys)

abbrev pub last_has_keys : List Cluster → Bool
last_has_keys [] = false
last_has_keys (c ∷ []) = has_keys c
last_has_keys (c ∷ d ∷ cs) = last_has_keys (d ∷ cs)

-- where those of these clusters start that have keys and from which on the keys are the pattern's
abbrev pub starts_of : List Key → List Cluster → List ℕ
starts_of pattern [] = []
starts_of pattern (c ∷ cs) =
    let here = c.start ∷ [] in
    (if has_keys c && same_keys (joined (c ∷ cs)) pattern then here else []) ++ starts_of pattern cs

-- the range that ends with the last of these clusters, which end at `end`; there is at most one
abbrev pub ended : List Key → List Cluster → ℕ → List (ℕ × ℕ)
ended pattern cs end =
    let ranges = map (λ start. (start, end)) (starts_of pattern cs) in if last_has_keys cs then ranges else []

-- the ranges that end with one of the first n clusters
abbrev pub found_within : List Key → List Cluster → ℕ → ℕ → List (ℕ × ℕ)
found_within pattern cs end zero = []
found_within pattern cs end (suc n) =
    found_within pattern cs end n ++ ended pattern (take (suc n) cs) (start_or end (drop (suc n) cs))

-- the ranges that end with one of these clusters, cluster end by cluster end; the last one ends at `end`
abbrev pub found : List Key → List Cluster → ℕ → List (ℕ × ℕ)
found pattern cs end = found_within pattern cs end (length cs)

-- the ranges that end with one of these clusters but the last one
abbrev pub found_before_last : List Key → List Cluster → ℕ → List (ℕ × ℕ)
found_before_last pattern cs end = found_within pattern cs end (length cs - 1)

-- ---- the same, by the flat list of keys

-- a key, where its cluster starts, and whether it is the first of its cluster
pub record PlacedKey : Type 0 where
  pub key : Key
  pub start : ℕ
  pub is_first : Bool

abbrev pub placed_at : ℕ → Bool → List Key → List PlacedKey
placed_at start is_first [] = []
placed_at start is_first (k ∷ ks) = record { key = k; start = start; is_first = is_first } ∷ placed_at start false ks

-- the keys of clusters in a row, with their places
abbrev pub placed : List Cluster → List PlacedKey
placed cs = flat_map (λ c. placed_at c.start true c.keys) cs

-- the range from the first of these keys on, if that is the first of its cluster
abbrev pub range_from : List PlacedKey → ℕ → List (ℕ × ℕ)
range_from [] end = []
range_from (k ∷ ks) end = let range = (k.start, end) ∷ [] in if k.is_first then range else []

-- The range that ends after these keys: their last ones, as many as the pattern has, are the pattern's, and the first of
-- these is the first of its cluster.
abbrev pub ended_by_keys : List Key → List PlacedKey → ℕ → List (ℕ × ℕ)
ended_by_keys pattern ks end =
    let last = drop (length ks - length pattern) ks in
    let ranges = range_from last end in
    if same_keys (map (λ k. k.key) last) pattern then ranges else []
