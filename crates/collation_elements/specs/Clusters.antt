-- The clusters of a text: what stands between two neighboring boundaries, with its keys. They are not the grapheme clusters of
-- UAX #29.
use Rattle.std.specs.Prelude.{ℕ, ◌==◌, false, List, [], ◌∷◌, ◌++◌, map, flat_map, if◌then◌else◌}
use Rattle.std.specs.Str.{chars}
use Rattle.nfd_points.specs.Points.{points}
use Rattle.collation_elements.specs.declared.settings.Variable.{Variable}
use Rattle.collation_elements.specs.declared.settings.Strength.{Strength}
use Rattle.collation_elements.specs.declared.keys.Key.{Key}
use Rattle.collation_elements.specs.declared.keys.Item.{Item}
use Rattle.collation_elements.specs.declared.keys.Item.TheVariants.{ClusterStart, Element}
use Rattle.collation_table.specs.Table.{TableMap}
use Rattle.collation_elements.specs.Units.{units}
use Rattle.collation_elements.specs.Items.{items}

-- the byte offset at which a cluster begins, and its keys
pub record Cluster : Type 0 where
  pub start : ℕ
  pub keys : List Key

-- The clusters of some items, the first of which go on with the cluster that has begun. The first cluster of a text begins
-- at 0, whether or not a unit begins one there; so a start at 0 begins no other.
abbrev pub clusters_from : Cluster → List Item → List Cluster
clusters_from begun [] = begun ∷ []
clusters_from begun (Element key ∷ rest) = clusters_from (record { start = begun.start; keys = begun.keys ++ key ∷ [] }) rest
clusters_from begun (ClusterStart start ∷ rest) =
    let same = clusters_from begun rest in
    let next = begun ∷ clusters_from (record { start = start; keys = [] }) rest in
    if start == 0 then same else next

-- the clusters of all items of a text
abbrev pub clusters_of : List Item → List Cluster
clusters_of all = clusters_from (record { start = 0; keys = [] }) all

-- the clusters of a text of bytes; the empty text has none
abbrev pub clusters : TableMap → Strength → Variable → List ℕ → List Cluster
clusters table strength variable [] = []
clusters table strength variable (b ∷ bs) = clusters_of (items table strength variable false (units table (points (chars (b ∷ bs)))))

-- where clusters start
abbrev pub starts : List Cluster → List ℕ
starts cs = map (λ c. c.start) cs

-- where the first of some clusters starts, or where the text ends if there is none
abbrev pub start_or : ℕ → List Cluster → ℕ
start_or end [] = end
start_or end (c ∷ cs) = c.start

-- the keys of clusters in a row
abbrev pub joined : List Cluster → List Key
joined cs = flat_map (λ c. c.keys) cs
