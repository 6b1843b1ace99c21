-- What a count of keys represents, while a text comes.
use Rattle.std.specs.Prelude.{◌≡◌, ℕ, List, length}
use Rattle.nfd_points.specs.declared.points.Point.{Point}
use Rattle.nfd_points.specs.Reordering.{HasReordered}
use Rattle.collation_table.specs.Table.{TableMap}
use Rattle.collation_elements.specs.declared.keys.Item.{Item}
use Rattle.collation_elements.specs.declared.weigher.Weigher.{Weigher}
use Rattle.collation_elements.specs.ItemParts.{item_keys}
use Rattle.collation_elements.specs.Windows.{Held, WindowStandsFor}
use Rattle.collation_elements.specs.Weighing.{WeigherStandsFor}
use Rattle.collation_pattern.specs.Compiled.{Compiled}
use Rattle.collation_anchored.specs.declared.comparison.Comparison.{Comparison}

-- The points went into the window, and the units that were cut have so many keys, with the settings of a pattern.
pub record KeysCounted (table : TableMap) (pattern : Compiled) (window : Held) (weigher : Weigher) (count : ℕ) (points : List Point) : Type 0 where
  pub units : List (List Point)
  pub items : List Item
  pub cut : WindowStandsFor table window points units
  pub weighed : WeigherStandsFor table weigher units items
  pub strength : weigher.strength ≡ pattern.strength
  pub variable : weigher.variable ≡ pattern.variable
  pub keys : count ≡ length (item_keys items)

-- the code points were taken
pub record HasCounted (table : TableMap) (pattern : Compiled) (comparison : Comparison) (count : ℕ) (taken : List ℕ) : Type 0 where
  pub points : List Point
  pub reordered : HasReordered comparison.reorder taken points
  pub counted : KeysCounted table pattern comparison.window comparison.weigher count points
