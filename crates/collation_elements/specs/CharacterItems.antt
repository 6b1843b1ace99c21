-- The items of one character's points, which no unit reaches into or out of, wherever they stand.
use Rattle.std.specs.Prelude.{◌≡◌, ℕ, true, false, List, [], ◌∷◌, ◌++◌, map, All, if◌then◌else◌}
use Rattle.std.specs.Option.{option_to_list}
use Rattle.nfd_points.specs.declared.points.Point.{Point}
use Rattle.nfd_points.specs.Points.{shifted}
use Rattle.collation_table.specs.Table.{TableMap}
use Rattle.collation_elements.specs.declared.keys.Key.{Key}
use Rattle.collation_elements.specs.declared.keys.Item.{Item}
use Rattle.collation_elements.specs.declared.keys.Item.TheVariants.{ClusterStart, Element}
use Rattle.collation_elements.specs.declared.character.CharacterItems.{CharacterItems}
use Rattle.collation_elements.specs.declared.settings.Strength.{Strength}
use Rattle.collation_elements.specs.declared.settings.Variable.TheVariants.{Shifted}
use Rattle.collation_elements.specs.declared.weigher.Weigher.{Weigher}
use Rattle.collation_elements.specs.Units.{units}
use Rattle.collation_elements.specs.Items.{items}
use Rattle.collation_elements.specs.Weighing.{after_units, weigher}

abbrev pub character_keys : CharacterItems → List Key
character_keys it = option_to_list it.first ++ (option_to_list it.second ++ option_to_list it.third)

-- the items where the character starts at an offset
abbrev pub character_items : CharacterItems → ℕ → List Item
character_items it start =
    let begun : List Item = ClusterStart start ∷ [] in
    (if it.begins_cluster then begun else []) ++ map (λ key. Element key) (character_keys it)

-- the items of these points by themselves, where this weigher weighs their units next, wherever they stand
abbrev pub AreItemsOfPoints : TableMap → Weigher → List Point → CharacterItems → Type 0
AreItemsOfPoints table w ps it =
    ((start : ℕ) → items table w.strength w.variable w.after_variable (units table (map (shifted start) ps)) ≡ character_items it start)
    × ((start : ℕ) → after_units table w.variable w.after_variable (units table (map (shifted start) ps)) ≡ it.after_variable)

-- in shifted weighting the items of these points by themselves are the same whether or not the last element before them that was variable
-- or primary was variable
abbrev pub AreSameBehindVariable : TableMap → List Point → Type 0
AreSameBehindVariable table ps =
    (strength : Strength) (it : CharacterItems) → AreItemsOfPoints table (weigher strength Shifted false) ps it → AreItemsOfPoints table (weigher strength Shifted true) ps it

-- the first point alone begins a code point's decomposition, and that stands at the beginning of a text
abbrev pub BeginsOnce : List Point → Type 0
BeginsOnce [] = Unit {0}
BeginsOnce (p ∷ ps) = (p.offset ≡ 0) × All (λ q. q.first ≡ false) ps
