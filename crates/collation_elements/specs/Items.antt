-- The items of a text: its keys in order, and before the keys of a unit that begins a cluster where that is.
use Rattle.std.specs.Prelude.{Bool, List, [], ◌∷◌, ◌++◌, map, Option, None, Some, slice_get, if◌then◌else◌}
use Rattle.nfd_points.specs.declared.points.Point.{Point}
use Rattle.collation_table.specs.declared.elements.Element.{Element as CollationElement}
use Rattle.collation_elements.specs.declared.settings.Variable.{Variable}
use Rattle.collation_elements.specs.declared.settings.Strength.{Strength}
use Rattle.collation_elements.specs.declared.keys.Item.{Item}
use Rattle.collation_elements.specs.declared.keys.Item.TheVariants.{ClusterStart, Element}
use Rattle.collation_table.specs.Table.{TableMap}
use Rattle.collation_elements.specs.Elements.{unit_row, weighted_row, after_row, begins_cluster_with}
use Rattle.collation_elements.specs.Keys.{row_keys}

-- where a cluster begins, if a unit of this first point and row begins one
abbrev pub start_items : Option Point → List CollationElement → List Item
start_items None row = []
start_items (Some p) row =
    let start = ClusterStart p.offset ∷ [] in if begins_cluster_with p row then start else []

-- the keys of a row, as items
abbrev pub key_items : Strength → List CollationElement → List Item
key_items strength row = map (λ key. Element key) (row_keys strength row)

-- the items of a unit of this first point and row; `after` says whether the last element before it that was variable or
-- primary was variable
abbrev pub row_items : Strength → Variable → Bool → Option Point → List CollationElement → List Item
row_items strength variable after first row =
    start_items first row ++ key_items strength (weighted_row variable after row)

abbrev pub unit_items : TableMap → Strength → Variable → Bool → List Point → List Item
unit_items table strength variable after unit =
    row_items strength variable after (slice_get unit 0) (unit_row table unit)

-- the flag after the unit
abbrev pub after_unit : TableMap → Variable → Bool → List Point → Bool
after_unit table variable after unit = after_row variable after (unit_row table unit)

-- the items of some units in turn
abbrev pub items : TableMap → Strength → Variable → Bool → List (List Point) → List Item
items table strength variable after [] = []
items table strength variable after (unit ∷ rest) =
    unit_items table strength variable after unit ++ items table strength variable (after_unit table variable after unit) rest
