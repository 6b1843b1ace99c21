-- What a comparison represents, while a text comes.
use Rattle.std.specs.Prelude.{◌≡◌, ℕ, ◌≤◌, ◌==◌, false, List, [], ◌∷◌, ◌++◌, take, length, Option, None, Some, if◌then◌else◌}
use Rattle.nfd_points.specs.declared.points.Point.{Point}
use Rattle.collation_table.specs.Table.{TableMap}
use Rattle.collation_elements.specs.declared.keys.Key.{Key}
use Rattle.collation_elements.specs.declared.keys.Item.{Item}
use Rattle.collation_elements.specs.declared.keys.Item.TheVariants.{ClusterStart, Element}
use Rattle.collation_elements.specs.declared.weigher.Weigher.{Weigher}
use Rattle.collation_elements.specs.ItemParts.{item_keys}
use Rattle.collation_elements.specs.Windows.{Held, WindowStandsFor}
use Rattle.collation_elements.specs.Weighing.{WeigherStandsFor}
use Rattle.collation_elements.specs.Units.{units}
use Rattle.collation_elements.specs.Items.{items}
use Rattle.collation_pattern.specs.Border.{same_keys}
use Rattle.collation_pattern.specs.Compiled.{Compiled}
use Rattle.collation_anchored.specs.declared.keys.Progress.{Progress}

-- Where the first cluster begins before which the keys are the pattern's, of a text that goes on with some items after some keys. The
-- first cluster has begun with the text.
abbrev pub completed_among : List Key → List Key → List Item → Option ℕ
completed_among pattern ks [] = None
completed_among pattern ks (Element key ∷ rest) = completed_among pattern (ks ++ key ∷ []) rest
completed_among pattern ks (ClusterStart start ∷ rest) =
    let later = completed_among pattern ks rest in
    let here = if same_keys ks pattern then Some start else later in
    if start == 0 then later else here

-- the same of the points of a text
abbrev pub completed : TableMap → Compiled → List Point → Option ℕ
completed table pattern ps = completed_among pattern.keys [] (items table pattern.strength pattern.variable false (units table ps))

-- The points went into the window, and the keys of the units that were cut are the first `matched` of the pattern's.
pub record KeysCame (table : TableMap) (pattern : Compiled) (window : Held) (weigher : Weigher) (progress : Progress) (points : List Point) : Type 0 where
  pub units : List (List Point)
  pub items : List Item
  pub cut : WindowStandsFor table window points units
  pub weighed : WeigherStandsFor table weigher units items
  pub strength : weigher.strength ≡ pattern.strength
  pub variable : weigher.variable ≡ pattern.variable
  pub keys : item_keys items ≡ take progress.matched pattern.keys
  pub within : progress.matched ≤ length pattern.keys
  pub completed : progress.completed ≡ completed_among pattern.keys [] items
