-- The items of a unit that has one key at most.
use Rattle.std.specs.Prelude.{List, ◌++◌, map}
use Rattle.std.specs.Option.{option_to_list}
use Rattle.collation_elements.specs.declared.keys.Item.{Item}
use Rattle.collation_elements.specs.declared.keys.Item.TheVariants.{ClusterStart, Element}
use Rattle.collation_elements.specs.declared.short.ShortItems.{ShortItems}

-- where a cluster begins, if one does, and the key, if there is one
abbrev pub listed : ShortItems → List Item
listed short = map (λ start. ClusterStart start) (option_to_list short.start) ++ map (λ key. Element key) (option_to_list short.key)
