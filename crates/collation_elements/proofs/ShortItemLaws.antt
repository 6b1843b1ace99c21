-- The items of a unit of one element, and of one that is a lead and its follower.
use Rattle.std.proofs.Common.{◌≡◌, ℕ, Bool, true, List, [], ◌∷◌, ◌++◌, ◌&&◌, map, Option, None, Some, IfSome, OnSome, sym, ◌∙◌, ap, ap₂}
use Rattle.std.specs.Option.{option_to_list}
use Rattle.std.proofs.lemmas.Bool.{cond-true, and_from}
use Rattle.nfd_points.specs.declared.points.Point.{Point}
use Rattle.collation_table.specs.declared.elements.Element.{Element as CollationElement}
use Rattle.collation_table.specs.WellFormed.{is_lead, is_follower}
use Rattle.collation_elements.specs.declared.settings.Strength.{Strength}
use Rattle.collation_elements.specs.declared.settings.Variable.{Variable}
use Rattle.collation_elements.specs.declared.keys.Key.{Key}
use Rattle.collation_elements.specs.declared.keys.Item.{Item}
use Rattle.collation_elements.specs.declared.keys.Item.TheVariants.{ClusterStart, Element}
use Rattle.collation_elements.specs.declared.weigher.Weigher.{Weigher}
use Rattle.collation_elements.specs.Elements.{weighted_row}
use Rattle.collation_elements.specs.Keys.{element_keys, pair_key, row_keys}
use Rattle.collation_elements.specs.Items.{start_items}
use Rattle.collation_elements.specs.ShortItems.{listed}
use Rattle.collation_elements.specs.Weighing.{weigher_after, value_items, weighted_element, after_element, WeigherStandsFor}
use Rattle.collation_elements.specs.UnitValues.{UnitValue, IsUnitOf}
use Rattle.collation_elements.specs.declared.short.ShortItems.{ShortItems}
use Rattle.collation_table.specs.Table.{TableMap}
use Rattle.collation_elements.proofs.ItemLaws.{weighted_row-cons, weighted_row-nil, stands_after}

weighted_row-one : (v : Variable) (after : Bool) (e : CollationElement) → weighted_row v after (e ∷ []) ≡ weighted_element v after e ∷ []
weighted_row-one v after e =
    weighted_row-cons v after e [] ∙ ap (λ es. weighted_element v after e ∷ es) (weighted_row-nil v (after_element v after e))

-- x is the element under variable weighting
pub listed-one : (w : Weigher) (p : Point) (e x : CollationElement) (start : Option ℕ) (key : Option Key) → map (λ at. ClusterStart at) (option_to_list start) ≡ start_items (Some p) (e ∷ []) → x ≡ weighted_element w.variable w.after_variable e → option_to_list key ≡ element_keys w.strength x →
    listed (record { start = start; key = key }) ≡ value_items w (record { first_point = p; elements = e ∷ [] })
listed-one w p e x start key begins is keyed =
    ap₂ (λ (ss : List Item) (ks : List Key). ss ++ map (λ k. Element k) ks) begins
    (keyed ∙ ap (element_keys w.strength) is ∙ ap (row_keys w.strength) (sym (weighted_row-one w.variable w.after_variable e)))

-- x and y are a lead and its follower
row_keys-pair : (s : Strength) (x y : CollationElement) → is_lead x ≡ true → is_follower y ≡ true → row_keys s (x ∷ y ∷ []) ≡ pair_key s x y ∷ []
row_keys-pair s x y lead follower = cond-true (is_lead x && is_follower y) (pair_key s x y ∷ []) _ (and_from _ _ lead follower)

-- and those of the pair e and f under variable weighting
pub listed-pair : (w : Weigher) (p : Point) (e f x y : CollationElement) (start : Option ℕ) (key : Key) → map (λ at. ClusterStart at) (option_to_list start) ≡ start_items (Some p) (e ∷ f ∷ []) → x ≡ weighted_element w.variable w.after_variable e → y ≡ weighted_element w.variable (after_element w.variable w.after_variable e) f → is_lead x ≡ true → is_follower y ≡ true → key ≡ pair_key w.strength x y →
    listed (record { start = start; key = Some key }) ≡ value_items w (record { first_point = p; elements = e ∷ f ∷ [] })
listed-pair w p e f x y start key begins first second lead follower keyed =
    let v : Variable = w.variable in
    let after : Bool = after_element v w.after_variable e in
    let row : weighted_row v w.after_variable (e ∷ f ∷ []) ≡ x ∷ y ∷ [] = weighted_row-cons v w.after_variable e (f ∷ []) ∙ ap (λ es. weighted_element v w.after_variable e ∷ es) (weighted_row-one v after f) ∙ ap₂ (λ (a b : CollationElement). a ∷ b ∷ []) (sym first) (sym second) in
    ap₂ (λ (ss : List Item) (ks : List Key). ss ++ map (λ k. Element k) ks) begins
    (ap (λ k. k ∷ []) keyed ∙ sym (row_keys-pair w.strength x y lead follower) ∙ ap (row_keys w.strength) (sym row))

pub stands_short : (w0 w1 : Weigher) (unit : UnitValue) (result : Option ShortItems) → OnSome result (w1 ≡ weigher_after w0 unit) → IfSome result (λ short. listed short ≡ value_items w0 unit) → (T : TableMap) (points : List Point) (us : List (List Point)) (given : List Item) → IsUnitOf T points unit → WeigherStandsFor T w0 us given →
    IfSome result (λ short. WeigherStandsFor T w1 (us ++ points ∷ []) (given ++ listed short))
stands_short w0 w1 unit None after items T points us given is stands = tt
stands_short w0 w1 unit (Some short) after items T points us given is stands = stands_after w0 w1 unit (listed short) after items T points us given is stands
