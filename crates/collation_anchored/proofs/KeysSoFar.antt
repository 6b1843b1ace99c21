-- The items and keys of all points, from those of the units that were cut.
use Rattle.std.proofs.Common.{◌≡◌, ◌∙◌, ℕ, ◌≤◌, true, false, List, [], ◌∷◌, ◌++◌, length, take, Option, Some, sym, ap, subst, refl}
use Rattle.std.proofs.lemmas.List.{append-nil}
use Rattle.std.proofs.lemmas.Grind.{flat_map-append}
use Rattle.nfd_points.specs.declared.points.Point.{Point}
use Rattle.collation_table.specs.Table.{TableMap}
use Rattle.collation_elements.specs.declared.keys.Key.{Key}
use Rattle.collation_elements.specs.declared.keys.Item.{Item}
use Rattle.collation_elements.specs.declared.settings.Strength.{Strength}
use Rattle.collation_elements.specs.declared.settings.Variable.{Variable}
use Rattle.collation_elements.specs.declared.weigher.Weigher.{Weigher}
use Rattle.collation_elements.specs.Items.{items}
use Rattle.collation_elements.specs.ItemParts.{keys_in, item_keys}
use Rattle.collation_elements.specs.Keys.{keys}
use Rattle.collation_elements.specs.Units.{units}
use Rattle.collation_elements.specs.Weighing.{after_units, WeigherStandsFor}
use Rattle.collation_elements.specs.Windows.{Held, WindowStandsFor}
use Rattle.collation_pattern.specs.Compiled.{Compiled}
use Rattle.collation_anchored.specs.Anchored.{is_begun}
use Rattle.collation_anchored.specs.Compared.{KeysCame, completed, completed_among}
use Rattle.collation_anchored.specs.declared.keys.Progress.{Progress}
use Rattle.collation_anchored.proofs.BegunKeys.{never_begun}
use Rattle.collation_anchored.proofs.CompletedKeys.{completed-stays, completed-apart}
use Rattle.collation_elements.proofs.ItemLaws.{item_keys-text, weigher_goes_on}

-- the items of a text's points under a pattern's settings
abbrev pub items_of : TableMap → Compiled → List Point → List Item
items_of table pattern points = items table pattern.strength pattern.variable false (units table points)

-- whatever points may follow, the items of all are those of the units so far and others
pub record ItemsGoOn (table : TableMap) (pattern : Compiled) (points : List Point) (given : List Item) : Type 0 where
  pub others : List Item
  pub all : items_of table pattern points ≡ given ++ others

settings : (table : TableMap) (pattern : Compiled) (weigher : Weigher) (points : List Point) → weigher.strength ≡ pattern.strength → weigher.variable ≡ pattern.variable →
    items_of table pattern points ≡ items table weigher.strength weigher.variable false (units table points)
settings table pattern weigher points strength variable =
    sym (ap (λ (s : Strength). items table s weigher.variable false (units table points)) strength ∙ ap (λ (v : Variable). items table pattern.strength v false (units table points)) variable)

pub items_go_on : (table : TableMap) (pattern : Compiled) (window : Held) (weigher : Weigher) (points more : List Point) (us : List (List Point)) (given : List Item) →
    WindowStandsFor table window points us → WeigherStandsFor table weigher us given → weigher.strength ≡ pattern.strength → weigher.variable ≡ pattern.variable →
    (window.has_ended ≡ true → more ≡ []) → ItemsGoOn table pattern (points ++ more) given
items_go_on table pattern window weigher points more us given cut weighed strength variable ends =
    let s = weigher.strength in
    let v = weigher.variable in
    let vs = units table (window.points ++ more) in
    let later = items table s v weigher.after_variable vs in
    let all = weigher_goes_on table weigher us vs given later (after_units table v weigher.after_variable vs) refl refl weighed in
    record {
      others = later;
      all = settings table pattern weigher (points ++ more) strength variable ∙ ap (items table s v false) (cut.continues more ends) ∙ sym all.items;
    }

-- where none is left, there are no others
pub items_all : (table : TableMap) (pattern : Compiled) (window : Held) (weigher : Weigher) (points : List Point) (us : List (List Point)) (given : List Item) →
    WindowStandsFor table window points us → WeigherStandsFor table weigher us given → weigher.strength ≡ pattern.strength → weigher.variable ≡ pattern.variable →
    window.points ≡ [] → items_of table pattern points ≡ given
items_all table pattern window weigher points us given cut weighed strength variable none =
    let following : units table (window.points ++ []) ≡ [] = ap (λ (ps : List Point). units table (ps ++ [])) none in
    let cut_all : units table points ≡ us =
    ap (units table) (sym (append-nil points)) ∙ cut.continues [] (λ e. refl) ∙ ap (λ (vs : List (List Point)). us ++ vs) following ∙ append-nil us in
    settings table pattern weigher points strength variable ∙ ap (items table weigher.strength weigher.variable false) cut_all ∙ sym weighed.items

-- ---- one unit more

pub came_on : (table : TableMap) (pattern : Compiled) (window next : Held) (weigher after : Weigher) (old new : Progress) (points : List Point) (unit : List Point) (its : List Item) →
    (h : KeysCame table pattern window weigher old points) → WindowStandsFor table next points (h.units ++ unit ∷ []) → WeigherStandsFor table after (h.units ++ unit ∷ []) (h.items ++ its) →
    after.strength ≡ weigher.strength → after.variable ≡ weigher.variable → take new.matched pattern.keys ≡ take old.matched pattern.keys ++ item_keys its → new.matched ≤ length pattern.keys →
    new.completed ≡ completed_among pattern.keys [] (h.items ++ its) → KeysCame table pattern next after new points
came_on table pattern window next weigher after old new points unit its h cut weighed strength variable more within completed = record {
  units = h.units ++ unit ∷ [];
  items = h.items ++ its;
  cut = cut;
  weighed = weighed;
  strength = strength ∙ h.strength;
  variable = variable ∙ h.variable;
  keys = flat_map-append keys_in h.items its ∙ ap (λ (ks : List Key). ks ++ item_keys its) h.keys ∙ sym more;
  within = within;
  completed = completed;
}

-- Where the keys of the units so far, and of the next one, are not the first of the pattern's, those of all points are not; and the
-- pattern's keys were completed among these units, or not at all.
pub record KeysDiffer (table : TableMap) (pattern : Compiled) (found : Option ℕ) (points : List Point) : Type 0 where
  pub keys : is_begun pattern.keys (keys table pattern.strength pattern.variable points) ≡ false
  pub completed : found ≡ completed table pattern points

pub came_apart : (table : TableMap) (pattern : Compiled) (window next : Held) (weigher after : Weigher) (old new : Progress) (points more : List Point) (unit : List Point) (its : List Item) →
    (h : KeysCame table pattern window weigher old points) → WindowStandsFor table next points (h.units ++ unit ∷ []) → WeigherStandsFor table after (h.units ++ unit ∷ []) (h.items ++ its) →
    after.strength ≡ weigher.strength → after.variable ≡ weigher.variable → (next.has_ended ≡ true → more ≡ []) →
    is_begun pattern.keys (take old.matched pattern.keys ++ item_keys its) ≡ false → new.completed ≡ completed_among pattern.keys [] (h.items ++ its) →
    KeysDiffer table pattern new.completed (points ++ more)
came_apart table pattern window next weigher after old new points more unit its h cut weighed strength variable ends other found =
    let all = items_go_on table pattern next after points more (h.units ++ unit ∷ []) (h.items ++ its) cut weighed (strength ∙ h.strength) (variable ∙ h.variable) ends in
    let here : item_keys (h.items ++ its) ≡ take old.matched pattern.keys ++ item_keys its = flat_map-append keys_in h.items its ∙ ap (λ (ks : List Key). ks ++ item_keys its) h.keys in
    let apart : is_begun pattern.keys (item_keys (h.items ++ its)) ≡ false = ap (is_begun pattern.keys) here ∙ other in
    record {
      keys = ap (is_begun pattern.keys) (sym (item_keys-text table pattern.strength pattern.variable (points ++ more)) ∙ ap item_keys all.all ∙ flat_map-append keys_in (h.items ++ its) all.others)
          ∙ never_begun pattern.keys (item_keys (h.items ++ its)) (item_keys all.others) apart;
      completed = found ∙ sym (ap (completed_among pattern.keys []) all.all ∙ completed-apart pattern.keys (h.items ++ its) all.others apart);
    }

-- ---- all points

-- where none is left, the keys of all points are the first so many of the pattern's
pub came_all : (table : TableMap) (pattern : Compiled) (window : Held) (weigher : Weigher) (progress : Progress) (points : List Point) → KeysCame table pattern window weigher progress points → window.points ≡ [] →
    keys table pattern.strength pattern.variable points ≡ take progress.matched pattern.keys
came_all table pattern window weigher progress points h none =
    sym (item_keys-text table pattern.strength pattern.variable points)
    ∙ ap item_keys (items_all table pattern window weigher points h.units h.items h.cut h.weighed h.strength h.variable none) ∙ h.keys

pub completed_all : (table : TableMap) (pattern : Compiled) (window : Held) (weigher : Weigher) (progress : Progress) (points : List Point) → KeysCame table pattern window weigher progress points → window.points ≡ [] →
    progress.completed ≡ completed table pattern points
completed_all table pattern window weigher progress points h none =
    h.completed ∙ ap (completed_among pattern.keys []) (sym (items_all table pattern window weigher points h.units h.items h.cut h.weighed h.strength h.variable none))

-- once the pattern's keys are completed, they are so whatever follows
pub completed_stays : (table : TableMap) (pattern : Compiled) (window : Held) (weigher : Weigher) (progress : Progress) (points more : List Point) (end : ℕ) → KeysCame table pattern window weigher progress points →
    (window.has_ended ≡ true → more ≡ []) → progress.completed ≡ Some end → progress.completed ≡ completed table pattern (points ++ more)
completed_stays table pattern window weigher progress points more end h ends some =
    let all = items_go_on table pattern window weigher points more h.units h.items h.cut h.weighed h.strength h.variable ends in
    some ∙ sym (ap (completed_among pattern.keys []) all.all ∙ completed-stays pattern.keys [] h.items all.others end (sym h.completed ∙ some))

-- points that were pushed, and of which no unit was cut
pub came_pushed : (table : TableMap) (pattern : Compiled) (window next : Held) (weigher : Weigher) (progress : Progress) (points slice out : List Point) → (h : KeysCame table pattern window weigher progress points) →
    WindowStandsFor table next (points ++ slice) h.units → slice ≡ out → KeysCame table pattern next weigher progress (points ++ out)
came_pushed table pattern window next weigher progress points slice out h cut same = record {
  units = h.units;
  items = h.items;
  cut = subst (λ (ps : List Point). WindowStandsFor table next (points ++ ps) h.units) same cut;
  weighed = h.weighed;
  strength = h.strength;
  variable = h.variable;
  keys = h.keys;
  within = h.within;
  completed = h.completed;
}
