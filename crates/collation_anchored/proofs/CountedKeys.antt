-- How many keys all points have, from those of the units that were cut.
use Rattle.std.proofs.Common.{◌≡◌, ◌∙◌, ℕ, ◌+◌, ◌<◌, true, List, [], ◌∷◌, ◌++◌, length, sym, ap, subst, arith, length-append}
use Rattle.std.proofs.lemmas.Grind.{flat_map-append}
use Rattle.nfd_points.specs.declared.points.Point.{Point}
use Rattle.collation_table.specs.Table.{TableMap}
use Rattle.collation_elements.specs.declared.keys.Item.{Item}
use Rattle.collation_elements.specs.declared.weigher.Weigher.{Weigher}
use Rattle.collation_elements.specs.ItemParts.{keys_in, item_keys}
use Rattle.collation_elements.specs.Keys.{keys}
use Rattle.collation_elements.specs.Weighing.{WeigherStandsFor}
use Rattle.collation_elements.specs.Windows.{Held, WindowStandsFor}
use Rattle.collation_elements.proofs.ItemLaws.{item_keys-text}
use Rattle.collation_pattern.specs.Compiled.{Compiled}
use Rattle.collation_anchored.specs.Counted.{KeysCounted}
use Rattle.collation_anchored.proofs.KeysSoFar.{items_go_on, items_all}

-- the keys of two lists of items, one behind the other
pub key_count-append : (xs ys : List Item) → length (item_keys (xs ++ ys)) ≡ length (item_keys xs) + length (item_keys ys)
key_count-append xs ys = ap length (flat_map-append keys_in xs ys) ∙ length-append (item_keys xs) (item_keys ys)

module _ (table : TableMap) (pattern : Compiled) (window next : Held) (weigher after : Weigher) (old : ℕ) (points unit : List Point) (its : List Item)
    (h : KeysCounted table pattern window weigher old points) (cut : WindowStandsFor table next points (h.units ++ unit ∷ []))
    (weighed : WeigherStandsFor table after (h.units ++ unit ∷ []) (h.items ++ its)) (strength : after.strength ≡ weigher.strength) (variable : after.variable ≡ weigher.variable) where
  -- one unit more
  pub counted_on : (new : ℕ) → new ≡ old + length (item_keys its) → KeysCounted table pattern next after new points
  counted_on new is = record {
    units = h.units ++ unit ∷ [];
    items = h.items ++ its;
    cut = cut;
    weighed = weighed;
    strength = strength ∙ h.strength;
    variable = variable ∙ h.variable;
    keys = let both = key_count-append h.items its in let before = h.keys in omega (arith, is, both, before);
  }

  -- where the units so far have more keys than some number, so have all points
  pub counted_more : (more : List Point) (most : ℕ) → (next.has_ended ≡ true → more ≡ []) → most < old + length (item_keys its) →
      most < length (keys table pattern.strength pattern.variable (points ++ more))
  counted_more more most ends less =
      let all = items_go_on table pattern next after points more (h.units ++ unit ∷ []) (h.items ++ its) cut weighed (strength ∙ h.strength) (variable ∙ h.variable) ends in
      let whole = ap length (sym (item_keys-text table pattern.strength pattern.variable (points ++ more)) ∙ ap item_keys all.all) ∙ key_count-append (h.items ++ its) all.others in
      let both = key_count-append h.items its in
      let before = h.keys in
      omega (arith, less, whole, both, before)

-- where none is left, all keys were counted
pub counted_all : (table : TableMap) (pattern : Compiled) (window : Held) (weigher : Weigher) (count : ℕ) (points : List Point) → KeysCounted table pattern window weigher count points → window.points ≡ [] →
    count ≡ length (keys table pattern.strength pattern.variable points)
counted_all table pattern window weigher count points h none =
    h.keys
    ∙ ap length (sym (ap item_keys (items_all table pattern window weigher points h.units h.items h.cut h.weighed h.strength h.variable none)) ∙ item_keys-text table pattern.strength pattern.variable points)

-- points that were pushed, and of which no unit was cut
pub counted_pushed : (table : TableMap) (pattern : Compiled) (window next : Held) (weigher : Weigher) (count : ℕ) (points slice out : List Point) → (h : KeysCounted table pattern window weigher count points) →
    WindowStandsFor table next (points ++ slice) h.units → slice ≡ out → KeysCounted table pattern next weigher count (points ++ out)
counted_pushed table pattern window next weigher count points slice out h cut same = record {
  units = h.units;
  items = h.items;
  cut = subst (λ (ps : List Point). WindowStandsFor table next (points ++ ps) h.units) same cut;
  weighed = h.weighed;
  strength = h.strength;
  variable = h.variable;
  keys = h.keys;
}
