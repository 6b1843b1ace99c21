-- The items of one unit, and how many starts of clusters they have.
use Rattle.std.proofs.Common.{◌≡◌, ℕ, suc, ◌+◌, ◌<◌, ◌≤◌, Bool, true, false, cond, List, [], ◌∷◌, ◌++◌, map, length, take, drop, get_or, refl, ◌∙◌, ap, arith, length-append}
use Rattle.std.proofs.Math.Seq.{split_at}
use Rattle.std.specs.Prelude.{Option, Some, None, IfSome}
use Rattle.std.specs.Option.{option_to_list}
use Rattle.collation_elements.specs.declared.keys.Key.{Key}
use Rattle.collation_elements.specs.declared.keys.Item.{Item}
use Rattle.collation_elements.specs.declared.keys.Item.TheVariants.{ClusterStart, Element}
use Rattle.collation_elements.specs.declared.weigher.Weigher.{Weigher}
use Rattle.collation_elements.specs.Elements.{begins_cluster_with, weighted_row}
use Rattle.collation_elements.specs.Keys.{row_keys}
use Rattle.collation_elements.specs.ItemParts.{item_starts}
use Rattle.collation_elements.specs.UnitValues.{UnitValue}
use Rattle.collation_elements.specs.Weighing.{value_items}

pub item_starts-append : (xs ys : List Item) → item_starts (xs ++ ys) ≡ item_starts xs ++ item_starts ys
item_starts-append [] ys = refl
item_starts-append (ClusterStart start ∷ xs) ys = ap (λ starts. start ∷ starts) (item_starts-append xs ys)
item_starts-append (Element key ∷ xs) ys = item_starts-append xs ys

item_starts-map : (ks : List Key) → item_starts (map (λ key. Element key) ks) ≡ []
item_starts-map [] = refl
item_starts-map (key ∷ ks) = item_starts-map ks

starts_few : (b : Bool) (start : ℕ) → length (item_starts (cond b (ClusterStart start ∷ []) [])) ≤ 1
starts_few true start = omega arith
starts_few false start = omega arith

-- the items of a unit have one start of a cluster at most
pub value_items-few : (w : Weigher) (unit : UnitValue) → length (item_starts (value_items w unit)) ≤ 1
value_items-few w unit =
    let p = unit.first_point in
    let test = begins_cluster_with p unit.elements in
    let ks = row_keys w.strength (weighted_row w.variable w.after_variable unit.elements) in
    let starts = cond test (ClusterStart p.offset ∷ []) [] in
    let parts = item_starts-append starts (map (λ key. Element key) ks) in
    let none = item_starts-map ks in
    let sum = ap length parts ∙ length-append (item_starts starts) (item_starts (map (λ key. Element key) ks)) in
    let zero = ap length none in
    omega (arith, sum, zero, starts_few test p.offset)

-- the starts among the first items and the next one are among all of them
pub starts_so_far : (xs : List Item) (i : ℕ) (d : Item) → i < length xs →
    length (item_starts (take i xs)) + length (item_starts (get_or xs i d ∷ [])) ≤ length (item_starts xs)
starts_so_far xs i d h =
    let parts = ap (λ t. item_starts t) (split_at xs i d h) in
    let first = item_starts-append (take i xs) (get_or xs i d ∷ drop (suc i) xs) in
    let second = item_starts-append (get_or xs i d ∷ []) (drop (suc i) xs) in
    let sum = ap length (parts ∙ first ∙ ap (λ t. item_starts (take i xs) ++ t) second)
    ∙ length-append (item_starts (take i xs)) (item_starts (get_or xs i d ∷ []) ++ item_starts (drop (suc i) xs)) in
    let more = length-append (item_starts (get_or xs i d ∷ [])) (item_starts (drop (suc i) xs)) in
    omega (arith, sum, more)

-- a range is handed out at a start only
pub few_at_start : (item : Item) (range : Option (ℕ × ℕ)) → IfSome range (λ r. item ≡ ClusterStart r.1) → length (option_to_list range) ≤ length (item_starts (item ∷ []))
few_at_start item None h = omega arith
few_at_start item (Some r) h =
    let one : length (item_starts (item ∷ [])) ≡ 1 = ap (λ t. length (item_starts (t ∷ []))) h in
    let listed : length (option_to_list (Some r)) ≡ 1 = refl in
    omega (arith, one, listed)

-- and no range with a key
pub no_range_at_key : (key : Key) (range : Option (ℕ × ℕ)) → IfSome range (λ r. Element key ≡ ClusterStart r.1) → option_to_list range ≡ []
no_range_at_key key None h = refl
no_range_at_key key (Some r) h = cc
