-- The keys and the cluster starts among some items.
use Rattle.std.specs.Prelude.{ℕ, List, [], ◌∷◌, flat_map}
use Rattle.collation_elements.specs.declared.keys.Key.{Key}
use Rattle.collation_elements.specs.declared.keys.Item.{Item}
use Rattle.collation_elements.specs.declared.keys.Item.TheVariants.{ClusterStart, Element}

abbrev pub keys_in : Item → List Key
keys_in (ClusterStart start) = []
keys_in (Element key) = key ∷ []

abbrev pub starts_in : Item → List ℕ
starts_in (ClusterStart start) = start ∷ []
starts_in (Element key) = []

abbrev pub item_keys : List Item → List Key
item_keys items = flat_map keys_in items

abbrev pub item_starts : List Item → List ℕ
item_starts items = flat_map starts_in items
