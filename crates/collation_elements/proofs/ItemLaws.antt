-- The items of units in turn: the keys and the cluster starts among them, and one unit more.
use Rattle.std.proofs.Common.{◌≡◌, ℕ, ◌+◌, ◌<◌, ◌≤◌, drop, get_or, subst, Bool, true, false, cond, List, [], ◌∷◌, ◌++◌, map, length, Option, Some, None, slice_get, refl, sym, ◌∙◌, ap, append_assoc}
use Rattle.std.specs.List.{flat_map}
use Rattle.std.specs.Option.{option_to_list}
use Rattle.std.proofs.lemmas.List.{append-nil, drop_more, drop_all}
use Rattle.std.proofs.lemmas.Grind.{flat_map-append}
use Rattle.nfd_points.specs.declared.points.Point.{Point}
use Rattle.collation_table.specs.declared.elements.Element.{Element as CollationElement}
use Rattle.collation_table.specs.Table.{TableMap}
use Rattle.collation_elements.specs.declared.settings.Strength.{Strength}
use Rattle.collation_elements.specs.declared.settings.Variable.{Variable}
use Rattle.collation_elements.specs.declared.settings.Variable.TheVariants.{NonIgnorable, Shifted}
use Rattle.collation_elements.specs.declared.keys.Key.{Key}
use Rattle.collation_elements.specs.declared.keys.Item.{Item}
use Rattle.collation_elements.specs.declared.keys.Item.TheVariants.{ClusterStart, Element}
use Rattle.collation_elements.specs.declared.weigher.Weigher.{Weigher}
use Rattle.collation_elements.specs.Units.{units}
use Rattle.collation_elements.specs.Elements.{unit_row, weighted_row, after_row, weighted_rows, begins_cluster}
use Rattle.collation_elements.specs.Keys.{row_keys, keys}
use Rattle.collation_elements.specs.Boundaries.{unit_starts, cluster_starts}
use Rattle.collation_elements.specs.Items.{row_items, start_items, unit_items, after_unit, items, key_items}
use Rattle.collation_elements.specs.ItemParts.{keys_in, starts_in, item_keys, item_starts}
use Rattle.collation_elements.specs.UnitValues.{UnitValue, IsUnitOf}
use Rattle.collation_elements.specs.Weighing.{weigher, weigher_after, value_items, after_units, weighted_element, after_element, WeigherStandsFor}

-- ---- the keys and the cluster starts among items

pub item_keys-map : (ks : List Key) → item_keys (map (λ key. Element key) ks) ≡ ks
item_keys-map [] = refl
item_keys-map (key ∷ ks) = ap (λ rest. key ∷ rest) (item_keys-map ks)

item_starts-map : (ks : List Key) → item_starts (map (λ key. Element key) ks) ≡ []
item_starts-map [] = refl
item_starts-map (key ∷ ks) = item_starts-map ks

item_keys-start : (b : Bool) (start : ℕ) → item_keys (cond b (ClusterStart start ∷ []) []) ≡ []
item_keys-start true start = refl
item_keys-start false start = refl

item_starts-start : (b : Bool) (start : ℕ) → item_starts (cond b (ClusterStart start ∷ []) []) ≡ cond b (start ∷ []) []
item_starts-start true start = refl
item_starts-start false start = refl

item_keys-start_items : (T : TableMap) (unit : List Point) → item_keys (start_items (slice_get unit 0) (unit_row T unit)) ≡ []
item_keys-start_items T [] = refl
item_keys-start_items T (p ∷ ps) = item_keys-start (begins_cluster T (p ∷ ps)) p.offset

item_starts-start_items : (T : TableMap) (unit : List Point) → item_starts (start_items (slice_get unit 0) (unit_row T unit)) ≡ unit_starts T unit
item_starts-start_items T [] = refl
item_starts-start_items T (p ∷ ps) = item_starts-start (begins_cluster T (p ∷ ps)) p.offset

item_keys-items : (T : TableMap) (s : Strength) (v : Variable) (after : Bool) (us : List (List Point)) → item_keys (items T s v after us) ≡ flat_map (row_keys s) (weighted_rows v after (map (unit_row T) us))
item_keys-items T s v after [] = refl
item_keys-items T s v after (unit ∷ us) =
    let ks : List Key = row_keys s (weighted_row v after (unit_row T unit)) in
    let rest : List Item = items T s v (after_unit T v after unit) us in
    let first : item_keys (unit_items T s v after unit) ≡ ks = flat_map-append keys_in (start_items (slice_get unit 0) (unit_row T unit)) (map (λ key. Element key) ks) ∙ ap (λ xs. xs ++ item_keys (map (λ key. Element key) ks)) (item_keys-start_items T unit) ∙ item_keys-map ks in
    flat_map-append keys_in (unit_items T s v after unit) rest
    ∙ ap (λ xs. xs ++ item_keys rest) first
    ∙ ap (λ xs. ks ++ xs) (item_keys-items T s v (after_unit T v after unit) us)

item_starts-items : (T : TableMap) (s : Strength) (v : Variable) (after : Bool) (us : List (List Point)) → item_starts (items T s v after us) ≡ flat_map (unit_starts T) us
item_starts-items T s v after [] = refl
item_starts-items T s v after (unit ∷ us) =
    let ks : List Key = row_keys s (weighted_row v after (unit_row T unit)) in
    let rest : List Item = items T s v (after_unit T v after unit) us in
    let first : item_starts (unit_items T s v after unit) ≡ unit_starts T unit = flat_map-append starts_in (start_items (slice_get unit 0) (unit_row T unit)) (map (λ key. Element key) ks) ∙ ap (λ xs. item_starts (start_items (slice_get unit 0) (unit_row T unit)) ++ xs) (item_starts-map ks) ∙ append-nil (item_starts (start_items (slice_get unit 0) (unit_row T unit))) ∙ item_starts-start_items T unit in
    flat_map-append starts_in (unit_items T s v after unit) rest
    ∙ ap (λ xs. xs ++ item_starts rest) first
    ∙ ap (λ xs. unit_starts T unit ++ xs) (item_starts-items T s v (after_unit T v after unit) us)

pub item_keys-text : (T : TableMap) (s : Strength) (v : Variable) (ps : List Point) → item_keys (items T s v false (units T ps)) ≡ keys T s v ps
item_keys-text T s v ps = item_keys-items T s v false (units T ps)

pub item_starts-text : (T : TableMap) (s : Strength) (v : Variable) (ps : List Point) → item_starts (items T s v false (units T ps)) ≡ cluster_starts T ps
item_starts-text T s v ps = item_starts-items T s v false (units T ps)

-- ---- one unit more

items-push : (T : TableMap) (s : Strength) (v : Variable) (after : Bool) (us : List (List Point)) (unit : List Point) → items T s v after (us ++ unit ∷ []) ≡ items T s v after us ++ unit_items T s v (after_units T v after us) unit
items-push T s v after [] unit = append-nil (unit_items T s v after unit)
items-push T s v after (u ∷ us) unit =
    ap (λ rest. unit_items T s v after u ++ rest) (items-push T s v (after_unit T v after u) us unit)
    ∙ sym (append_assoc (unit_items T s v after u) (items T s v (after_unit T v after u) us) (unit_items T s v (after_units T v (after_unit T v after u) us) unit))

after_units-push : (T : TableMap) (v : Variable) (after : Bool) (us : List (List Point)) (unit : List Point) → after_units T v after (us ++ unit ∷ []) ≡ after_unit T v (after_units T v after us) unit
after_units-push T v after [] unit = refl
after_units-push T v after (u ∷ us) unit = after_units-push T v (after_unit T v after u) us unit

items-append : (T : TableMap) (s : Strength) (v : Variable) (after : Bool) (us vs : List (List Point)) → items T s v after (us ++ vs) ≡ items T s v after us ++ items T s v (after_units T v after us) vs
items-append T s v after [] vs = refl
items-append T s v after (u ∷ us) vs =
    ap (λ rest. unit_items T s v after u ++ rest) (items-append T s v (after_unit T v after u) us vs)
    ∙ sym (append_assoc (unit_items T s v after u) (items T s v (after_unit T v after u) us) (items T s v (after_units T v (after_unit T v after u) us) vs))

after_units-append : (T : TableMap) (v : Variable) (after : Bool) (us vs : List (List Point)) → after_units T v after (us ++ vs) ≡ after_units T v (after_units T v after us) vs
after_units-append T v after [] vs = refl
after_units-append T v after (u ∷ us) vs = after_units-append T v (after_unit T v after u) us vs

-- a weigher goes on with further units
pub weigher_goes_on : (T : TableMap) (w : Weigher) (us vs : List (List Point)) (given more : List Item) (after : Bool) → items T w.strength w.variable w.after_variable vs ≡ more →
    after_units T w.variable w.after_variable vs ≡ after → WeigherStandsFor T w us given → WeigherStandsFor T (weigher w.strength w.variable after) (us ++ vs) (given ++ more)
weigher_goes_on T w us vs given more after gives leaves stands = record {
  items =
      ap (λ xs. given ++ xs) (sym gives) ∙ ap (λ xs. xs ++ items T w.strength w.variable w.after_variable vs) stands.items
      ∙ ap (λ b. items T w.strength w.variable false us ++ items T w.strength w.variable b vs) stands.after
      ∙ sym (items-append T w.strength w.variable false us vs);
  after = sym leaves ∙ ap (λ b. after_units T w.variable b vs) stands.after ∙ sym (after_units-append T w.variable false us vs);
}

-- the items of a unit, from its value alone
pub unit_items-value : (T : TableMap) (w : Weigher) (points : List Point) (unit : UnitValue) → IsUnitOf T points unit → unit_items T w.strength w.variable w.after_variable points ≡ value_items w unit
unit_items-value T w points unit is =
    ap (λ (first : Option Point). row_items w.strength w.variable w.after_variable first (unit_row T points)) is.first_point
    ∙ ap (row_items w.strength w.variable w.after_variable (Some unit.first_point)) (sym is.elements)

pub weigher_stands : (T : TableMap) (w : Weigher) (points : List Point) (unit : UnitValue) (us : List (List Point)) (given : List Item) → IsUnitOf T points unit → WeigherStandsFor T w us given → WeigherStandsFor T (weigher_after w unit) (us ++ points ∷ []) (given ++ value_items w unit)
weigher_stands T w points unit us given is stands = record {
  items =
      ap (λ xs. xs ++ value_items w unit) stands.items
      ∙ ap (λ xs. items T w.strength w.variable false us ++ xs) (sym (unit_items-value T w points unit is))
      ∙ ap (λ after. items T w.strength w.variable false us ++ unit_items T w.strength w.variable after points) stands.after
      ∙ sym (items-push T w.strength w.variable false us points);
  after =
      ap (λ after. after_row w.variable after unit.elements) stands.after
      ∙ ap (λ es. after_row w.variable (after_units T w.variable false us) es) is.elements
      ∙ sym (after_units-push T w.variable false us points);
}

-- ---- a row from the left

pub weighted_row-cons : (v : Variable) (after : Bool) (e : CollationElement) (es : List CollationElement) → weighted_row v after (e ∷ es) ≡ weighted_element v after e ∷ weighted_row v (after_element v after e) es
weighted_row-cons NonIgnorable after e es = refl
weighted_row-cons Shifted after e es = refl

pub after_row-cons : (v : Variable) (after : Bool) (e : CollationElement) (es : List CollationElement) → after_row v after (e ∷ es) ≡ after_row v (after_element v after e) es
after_row-cons NonIgnorable after e es = refl
after_row-cons Shifted after e es = refl

pub weighted_row-nil : (v : Variable) (after : Bool) → weighted_row v after [] ≡ []
weighted_row-nil NonIgnorable after = refl
weighted_row-nil Shifted after = refl

pub after_row-nil : (v : Variable) (after : Bool) → after_row v after [] ≡ after
after_row-nil NonIgnorable after = refl
after_row-nil Shifted after = refl

-- one element more: `e` is the next one under variable weighting, and a lead may wait before it
pub items_step : (w0 w1 : Weigher) (row : List CollationElement) (i : ℕ) (d e : CollationElement) (items0 items1 all : List Item) (lead0 lead1 : Option CollationElement) → i < length row → e ≡ weighted_element w0.variable w0.after_variable (get_or row i d) → w1 ≡ weigher w0.strength w0.variable (after_element w0.variable w0.after_variable (get_or row i d)) → ((es : List CollationElement) → items1 ++ key_items w1.strength (option_to_list lead1 ++ es) ≡ items0 ++ key_items w1.strength (option_to_list lead0 ++ e ∷ es)) → items0 ++ key_items w0.strength (option_to_list lead0 ++ weighted_row w0.variable w0.after_variable (drop i row)) ≡ all → items1 ++ key_items w1.strength (option_to_list lead1 ++ weighted_row w1.variable w1.after_variable (drop (i + 1) row)) ≡ all
items_step w0 w1 row i d e items0 items1 all lead0 lead1 h e_is w_is adds so_far =
    let x : CollationElement = get_or row i d in
    let rest : List CollationElement = drop (i + 1) row in
    adds (weighted_row w1.variable w1.after_variable rest)
    ∙ ap (λ (w : Weigher). items0 ++ key_items w.strength (option_to_list lead0 ++ e ∷ weighted_row w.variable w.after_variable rest)) w_is
    ∙ ap (λ (f : CollationElement). items0 ++ key_items w0.strength (option_to_list lead0 ++ f ∷ weighted_row w0.variable (after_element w0.variable w0.after_variable x) rest)) e_is
    ∙ ap (λ es. items0 ++ key_items w0.strength (option_to_list lead0 ++ es)) (sym (weighted_row-cons w0.variable w0.after_variable x rest))
    ∙ ap (λ es. items0 ++ key_items w0.strength (option_to_list lead0 ++ weighted_row w0.variable w0.after_variable es)) (sym (drop_more row i d h))
    ∙ so_far

pub after_step : (w0 w1 : Weigher) (row : List CollationElement) (i : ℕ) (d : CollationElement) (all : Bool) → i < length row → w1 ≡ weigher w0.strength w0.variable (after_element w0.variable w0.after_variable (get_or row i d)) → after_row w0.variable w0.after_variable (drop i row) ≡ all → after_row w1.variable w1.after_variable (drop (i + 1) row) ≡ all
after_step w0 w1 row i d all h w_is so_far =
    let x : CollationElement = get_or row i d in
    let rest : List CollationElement = drop (i + 1) row in
    ap (λ (w : Weigher). after_row w.variable w.after_variable rest) w_is
    ∙ sym (after_row-cons w0.variable w0.after_variable x rest)
    ∙ ap (after_row w0.variable w0.after_variable) (sym (drop_more row i d h))
    ∙ so_far

-- the end of a row, where a lead may still wait
pub items_end : (w : Weigher) (row : List CollationElement) (i : ℕ) (before all : List Item) (lead : Option CollationElement) → length row ≤ i → before ++ key_items w.strength (option_to_list lead ++ weighted_row w.variable w.after_variable (drop i row)) ≡ all → before ++ key_items w.strength (option_to_list lead ++ []) ≡ all
items_end w row i before all lead past so_far =
    ap (λ es. before ++ key_items w.strength (option_to_list lead ++ es)) (sym (ap (weighted_row w.variable w.after_variable) (drop_all i row past) ∙ weighted_row-nil w.variable w.after_variable)) ∙ so_far

pub items_end-none : (w : Weigher) (row : List CollationElement) (i : ℕ) (before all : List Item) (lead : Option CollationElement) → length row ≤ i → lead ≡ None → before ++ key_items w.strength (option_to_list lead ++ weighted_row w.variable w.after_variable (drop i row)) ≡ all → before ≡ all
items_end-none w row i before all lead past none so_far =
    sym (append-nil before)
    ∙ ap (λ (l : Option CollationElement). before ++ key_items w.strength (option_to_list l ++ [])) (sym none)
    ∙ items_end w row i before all lead past so_far

pub items_end-lead : (w : Weigher) (row : List CollationElement) (i : ℕ) (before after all : List Item) (lead : Option CollationElement) (l : CollationElement) → length row ≤ i → lead ≡ Some l → after ≡ before ++ key_items w.strength (l ∷ []) → before ++ key_items w.strength (option_to_list lead ++ weighted_row w.variable w.after_variable (drop i row)) ≡ all → after ≡ all
items_end-lead w row i before after all lead l past some is so_far =
    is
    ∙ ap (λ (m : Option CollationElement). before ++ key_items w.strength (option_to_list m ++ [])) (sym some)
    ∙ items_end w row i before all lead past so_far

pub weigher_end : (w0 w1 : Weigher) (row : List CollationElement) (unit : UnitValue) (i : ℕ) → length row ≤ i → w1.strength ≡ w0.strength → w1.variable ≡ w0.variable → after_row w1.variable w1.after_variable (drop i row) ≡ after_row w0.variable w0.after_variable unit.elements → w1 ≡ weigher_after w0 unit
weigher_end w0 w1 row unit i past strength variable so_far =
    let after : w1.after_variable ≡ after_row w0.variable w0.after_variable unit.elements = sym (ap (after_row w1.variable w1.after_variable) (drop_all i row past) ∙ after_row-nil w1.variable w1.after_variable) ∙ so_far in
    ap (λ s. weigher s w1.variable w1.after_variable) strength
    ∙ ap (λ v. weigher w0.strength v w1.after_variable) variable
    ∙ ap (λ a. weigher w0.strength w0.variable a) after

pub stands_after : (w0 w1 : Weigher) (unit : UnitValue) (new : List Item) → w1 ≡ weigher_after w0 unit → new ≡ value_items w0 unit → (T : TableMap) (points : List Point) (us : List (List Point)) (given : List Item) → IsUnitOf T points unit → WeigherStandsFor T w0 us given → WeigherStandsFor T w1 (us ++ points ∷ []) (given ++ new)
stands_after w0 w1 unit new w_is new_is T points us given is stands =
    subst (λ (w : Weigher). WeigherStandsFor T w (us ++ points ∷ []) (given ++ new)) (sym w_is)
    (subst (λ (xs : List Item). WeigherStandsFor T (weigher_after w0 unit) (us ++ points ∷ []) (given ++ xs)) (sym new_is) (weigher_stands T w0 points unit us given is stands))
