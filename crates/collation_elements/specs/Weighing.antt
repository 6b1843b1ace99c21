-- What a weigher gives for one unit, and what it represents.
use Rattle.std.specs.Prelude.{◌≡◌, Bool, false, List, [], ◌∷◌, Some}
use Rattle.nfd_points.specs.declared.points.Point.{Point}
use Rattle.collation_table.specs.declared.elements.Element.{Element as CollationElement}
use Rattle.collation_table.specs.Table.{TableMap}
use Rattle.collation_elements.specs.declared.settings.Strength.{Strength}
use Rattle.collation_elements.specs.declared.settings.Variable.{Variable}
use Rattle.collation_elements.specs.declared.settings.Variable.TheVariants.{NonIgnorable, Shifted}
use Rattle.collation_elements.specs.declared.keys.Item.{Item}
use Rattle.collation_elements.specs.declared.weigher.Weigher.{Weigher}
use Rattle.collation_elements.specs.Elements.{shifted_element, after_variable, after_row}
use Rattle.collation_elements.specs.Items.{row_items, items, after_unit}
use Rattle.collation_elements.specs.UnitValues.{UnitValue}

-- a weigher of these settings; `after` says whether the last element that was variable or primary was variable
abbrev pub weigher : Strength → Variable → Bool → Weigher
weigher strength variable after = record { strength = strength; variable = variable; after_variable = after }

abbrev pub is_after_variable : Weigher → Bool
is_after_variable w = w.after_variable

-- an element under variable weighting, and the flag after it
abbrev pub weighted_element : Variable → Bool → CollationElement → CollationElement
weighted_element NonIgnorable after e = e
weighted_element Shifted after e = shifted_element after e

abbrev pub after_element : Variable → Bool → CollationElement → Bool
after_element NonIgnorable after e = after
after_element Shifted after e = after_variable after e

-- the items of a unit
abbrev pub value_items : Weigher → UnitValue → List Item
value_items w unit = row_items w.strength w.variable w.after_variable (Some unit.first_point) unit.elements

-- the weigher after a unit
abbrev pub weigher_after : Weigher → UnitValue → Weigher
weigher_after w unit = weigher w.strength w.variable (after_row w.variable w.after_variable unit.elements)

-- the flag after some units in turn
abbrev pub after_units : TableMap → Variable → Bool → List (List Point) → Bool
after_units table variable after [] = after
after_units table variable after (unit ∷ rest) = after_units table variable (after_unit table variable after unit) rest

-- What a weigher represents: `units` are the units that it was given, from the beginning of a text on, and `given` the
-- items that it gave for them.
pub record WeigherStandsFor (table : TableMap) (w : Weigher) (units : List (List Point)) (given : List Item) : Type 0 where
  pub items : given ≡ items table w.strength w.variable false units
  pub after : w.after_variable ≡ after_units table w.variable false units
