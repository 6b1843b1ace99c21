-- The items of a character's points, cut unit by unit, wherever they stand.
use Rattle.std.proofs.Common.{◌≡◌, ℕ, zero, suc, ◌+◌, ◌-◌, ◌<◌, ◌≤◌, Bool, true, false, cond, ◌&&◌, List, [], ◌∷◌, ◌++◌, map, length, take, drop, Option, None, Some, IfSome, IfNone, slice_get, refl, sym, ◌∙◌, ap, ap₂, arith, append_assoc, length-drop}
use Rattle.std.specs.List.{All}
use Rattle.std.proofs.lemmas.List.{length-map, map-append}
use Rattle.std.proofs.lemmas.List.Elements.{All-nil, All-head, All-drop}
use Rattle.nfd_points.specs.declared.points.Point.{Point}
use Rattle.nfd_points.specs.Points.{is_starter, shifted}
use Rattle.collation_table.specs.Table.{TableMap}
use Rattle.collation_elements.specs.declared.settings.Strength.{Strength}
use Rattle.collation_elements.specs.declared.settings.Variable.{Variable}
use Rattle.collation_elements.specs.declared.keys.Key.{Key}
use Rattle.collation_elements.specs.declared.keys.Item.{Item}
use Rattle.collation_elements.specs.declared.keys.Item.TheVariants.{ClusterStart, Element}
use Rattle.collation_elements.specs.declared.character.CharacterItems.{CharacterItems}
use Rattle.collation_elements.specs.declared.weigher.Weigher.{Weigher}
use Rattle.collation_elements.specs.Units.{extended, prefix_length, units}
use Rattle.collation_elements.specs.Elements.{unit_row, weighted_row, after_row, begins_primary, begins_cluster, begins_cluster_with}
use Rattle.collation_elements.specs.Keys.{row_keys}
use Rattle.collation_elements.specs.Items.{start_items, row_items, items, unit_items, after_unit}
use Rattle.collation_elements.specs.ItemParts.{item_keys}
use Rattle.collation_elements.specs.CharacterItems.{AreItemsOfPoints, BeginsOnce, character_keys, character_items}
use Rattle.collation_elements.specs.UnitValues.{UnitValue, IsUnitOf}
use Rattle.collation_elements.specs.Weighing.{weigher_after, value_items, after_units}
use Rattle.collation_elements.specs.Windows.{next_cut}
use Rattle.collation_elements.proofs.ContextOffsets.{units-shift, unit_row-shift}
use Rattle.collation_elements.proofs.Cutting.{units-next_cut, length-next_cut}
use Rattle.collation_elements.proofs.Cuts.{slice_get-next_cut}
use Rattle.collation_elements.proofs.LeftPoints.{all-extended, all-next_cut}
use Rattle.collation_elements.proofs.ItemLaws.{item_keys-map, unit_items-value}

-- ---- one unit more

-- what a weigher makes of all units of some points
abbrev pub items_by : TableMap → Weigher → List Point → List Item
items_by T w ps = items T w.strength w.variable w.after_variable (units T ps)

abbrev pub after_by : TableMap → Weigher → List Point → Bool
after_by T w ps = after_units T w.variable w.after_variable (units T ps)

pub items_by-cut : (T : TableMap) (w w1 : Weigher) (ps rest : List Point) (unit : UnitValue) → 0 < length ps → IsUnitOf T (next_cut T ps).unit unit → rest ≡ (next_cut T ps).rest → w1 ≡ weigher_after w unit → items_by T w ps ≡ value_items w unit ++ items_by T w1 rest
items_by-cut T w w1 ps rest unit some is left after =
    let cut = next_cut T ps in
    let flag : after_unit T w.variable w.after_variable cut.unit ≡ after_row w.variable w.after_variable unit.elements = ap (after_row w.variable w.after_variable) (sym is.elements) in
    ap (items T w.strength w.variable w.after_variable) (units-next_cut T ps some)
    ∙ ap (λ xs. xs ++ items T w.strength w.variable (after_unit T w.variable w.after_variable cut.unit) (units T cut.rest)) (unit_items-value T w cut.unit unit is)
    ∙ ap (λ (b : Bool). value_items w unit ++ items T w.strength w.variable b (units T cut.rest)) flag
    ∙ ap (λ qs. value_items w unit ++ items_by T (weigher_after w unit) qs) (sym left)
    ∙ ap (λ (v : Weigher). value_items w unit ++ items_by T v rest) (sym after)

pub after_by-cut : (T : TableMap) (w w1 : Weigher) (ps rest : List Point) (unit : UnitValue) → 0 < length ps → IsUnitOf T (next_cut T ps).unit unit → rest ≡ (next_cut T ps).rest → w1 ≡ weigher_after w unit → after_by T w ps ≡ after_by T w1 rest
after_by-cut T w w1 ps rest unit some is left after =
    let cut = next_cut T ps in
    let flag : after_unit T w.variable w.after_variable cut.unit ≡ after_row w.variable w.after_variable unit.elements = ap (after_row w.variable w.after_variable) (sym is.elements) in
    ap (after_units T w.variable w.after_variable) (units-next_cut T ps some)
    ∙ ap (λ (b : Bool). after_units T w.variable b (units T cut.rest)) flag
    ∙ ap (λ qs. after_by T (weigher_after w unit) qs) (sym left)
    ∙ ap (λ (v : Weigher). after_by T v rest) (sym after)

-- ---- a start and some keys

pub keys_after_start : (begins started : Bool) (keys : List Key) (all rest : List Item) → all ≡ cond started (ClusterStart 0 ∷ []) [] ++ rest → ((others : List Item) → all ≡ ClusterStart 0 ∷ others → rest ≡ others) → ((key : Key) (others : List Item) → all ≡ Element key ∷ others → rest ≡ all) →
    all ≡ cond begins (ClusterStart 0 ∷ []) [] ++ map (λ key. Element key) keys → rest ≡ map (λ key. Element key) keys
keys_after_start true started keys all rest split start key is = start (map (λ k. Element k) keys) is
keys_after_start false started (k ∷ keys) all rest split start key is = key k (map (λ j. Element j) keys) is ∙ is
keys_after_start false false [] all rest split start key is = sym split ∙ is
keys_after_start false true [] all rest split start key is = let none : suc (length rest) ≡ 0 = ap length (sym split ∙ is) in absurd (omega arith)

-- more than three keys, where some are left after three
pub more_keys : (keys : List Key) (rest : List Item) → rest ≡ map (λ key. Element key) (drop 1 (drop 1 (drop 1 keys))) → 0 < length rest → 3 < length keys
more_keys keys rest is some =
    let left : length rest ≡ length keys - 1 - 1 - 1 = ap length is ∙ length-map (drop 1 (drop 1 (drop 1 keys))) (λ key. Element key) ∙ length-drop 1 (drop 1 (drop 1 keys)) ∙ ap (λ (n : ℕ). n - 1) (length-drop 1 (drop 1 keys) ∙ ap (λ (n : ℕ). n - 1) (length-drop 1 keys)) in
    omega arith

-- ---- wherever the points stand

-- an item so many bytes later
abbrev moved : ℕ → Item → Item
moved by (ClusterStart at) = ClusterStart (by + at)
moved by (Element key) = Element key

moved-keys : (by : ℕ) (ks : List Key) → map (moved by) (map (λ key. Element key) ks) ≡ map (λ key. Element key) ks
moved-keys by [] = refl
moved-keys by (key ∷ ks) = ap (λ xs. Element key ∷ xs) (moved-keys by ks)

moved-start : (by at : ℕ) (b : Bool) (ks : List Key) → cond b (ClusterStart (by + at) ∷ []) [] ++ map (λ key. Element key) ks ≡ map (moved by) (cond b (ClusterStart at ∷ []) [] ++ map (λ key. Element key) ks)
moved-start by at true ks = ap (λ xs. ClusterStart (by + at) ∷ xs) (sym (moved-keys by ks))
moved-start by at false ks = sym (moved-keys by ks)

unit_items-shift : (T : TableMap) (s : Strength) (v : Variable) (after : Bool) (by : ℕ) (unit : List Point) → unit_items T s v after (map (shifted by) unit) ≡ map (moved by) (unit_items T s v after unit)
unit_items-shift T s v after by [] = sym (moved-keys by (row_keys s (weighted_row v after [])))
unit_items-shift T s v after by (p ∷ ps) =
    ap (row_items s v after (Some (shifted by p))) (unit_row-shift T by (p ∷ ps))
    ∙ moved-start by p.offset (begins_cluster T (p ∷ ps)) (row_keys s (weighted_row v after (unit_row T (p ∷ ps))))

items-shift : (T : TableMap) (s : Strength) (v : Variable) (after : Bool) (by : ℕ) (us : List (List Point)) → items T s v after (map (map (shifted by)) us) ≡ map (moved by) (items T s v after us)
items-shift T s v after by [] = refl
items-shift T s v after by (u ∷ us) =
    ap₂ (λ xs ys. xs ++ ys) (unit_items-shift T s v after by u)
    (ap (λ row. items T s v (after_row v after row) (map (map (shifted by)) us)) (unit_row-shift T by u) ∙ items-shift T s v (after_unit T v after u) by us)
    ∙ sym (map-append (moved by) (unit_items T s v after u) (items T s v (after_unit T v after u) us))

after_units-shift : (T : TableMap) (v : Variable) (after : Bool) (by : ℕ) (us : List (List Point)) → after_units T v after (map (map (shifted by)) us) ≡ after_units T v after us
after_units-shift T v after by [] = refl
after_units-shift T v after by (u ∷ us) =
    ap (λ row. after_units T v (after_row v after row) (map (map (shifted by)) us)) (unit_row-shift T by u) ∙ after_units-shift T v (after_unit T v after u) by us

at_start : (it : CharacterItems) (start : ℕ) → map (moved start) (character_items it 0) ≡ character_items it start
at_start it start =
    let there : start + 0 ≡ start = omega arith in
    sym (moved-start start 0 it.begins_cluster (character_keys it))
    ∙ ap (λ (at : ℕ). cond it.begins_cluster (ClusterStart at ∷ []) [] ++ map (λ key. Element key) (character_keys it)) there

pub are_items : (T : TableMap) (w : Weigher) (ps : List Point) (result : Option CharacterItems) (given : List Item) (flag : Bool) → given ≡ items_by T w ps → flag ≡ after_by T w ps → IfSome result (λ it. given ≡ character_items it 0) → IfSome result (λ it. it.after_variable ≡ flag) → IfSome result (λ it. AreItemsOfPoints T w ps it)
are_items T w ps None given flag all after is flagged = tt
are_items T w ps (Some it) given flag all after is flagged = (
  λ start. ap (items T w.strength w.variable w.after_variable) (units-shift T start ps)
      ∙ items-shift T w.strength w.variable w.after_variable start (units T ps)
      ∙ ap (map (moved start)) (sym all ∙ is)
      ∙ at_start it start,
  λ start. ap (after_units T w.variable w.after_variable) (units-shift T start ps)
      ∙ after_units-shift T w.variable w.after_variable start (units T ps)
      ∙ sym after
      ∙ sym flagged,
)

-- ---- points that begin one code point's decomposition

-- no point begins one
keys_only : (n : ℕ) (T : TableMap) (s : Strength) (v : Variable) (after : Bool) (ps : List Point) → length ps ≤ n → All (λ q. q.first ≡ false) ps → (ks : List Key) × (items T s v after (units T ps) ≡ map (λ key. Element key) ks)
keys_only n T s v after [] few later = ([], refl)
keys_only zero T s v after (p ∷ ps) few later = absurd (omega arith)
keys_only (suc n) T s v after (p ∷ ps) few later =
    let cut = next_cut T (p ∷ ps) in
    let row = unit_row T cut.unit in
    let more = keys_only n T s v (after_unit T v after cut.unit) cut.rest (omega (arith, length-next_cut T (p ∷ ps) (omega arith))) (all-next_cut (λ q. q.first ≡ false) T (p ∷ ps) later) in
    let ks : List Key = row_keys s (weighted_row v after row) in
    let none : start_items (slice_get cut.unit 0) row ≡ [] = ap (λ first. start_items first row) (slice_get-next_cut T (p ∷ ps) (omega arith)) ∙ ap (λ (b : Bool). cond (b && is_starter p && begins_primary row) (ClusterStart p.offset ∷ []) []) (All-head (λ q. q.first ≡ false) p ps later) in (
      ks ++ more.0,
      ap (items T s v after) (units-next_cut T (p ∷ ps) (omega arith))
          ∙ ap₂ (λ (starts rest : List Item). (starts ++ map (λ key. Element key) ks) ++ rest) none more.1
          ∙ sym (map-append (λ key. Element key) ks more.0),
    )

left_later : (T : TableMap) (p : Point) (ps : List Point) (n : ℕ) → 1 ≤ n → All (λ q. q.first ≡ false) ps → All (λ q. q.first ≡ false) (extended T (take n (p ∷ ps)) [] (drop n (p ∷ ps))).rest
left_later T p ps zero some later = absurd (omega arith)
left_later T p ps (suc n) some later = all-extended (λ q. q.first ≡ false) T (p ∷ take n ps) [] (drop n ps) (All-nil (λ q. q.first ≡ false)) (All-drop (λ q. q.first ≡ false) n ps later)

-- a start at 0, if there is one, and then keys
begins_once : (T : TableMap) (s : Strength) (v : Variable) (after : Bool) (ps : List Point) → BeginsOnce ps → (b : Bool) × (ks : List Key) × (items T s v after (units T ps) ≡ cond b (ClusterStart 0 ∷ []) [] ++ map (λ key. Element key) ks)
begins_once T s v after [] once = (false, [], refl)
begins_once T s v after (p ∷ ps) once =
    let cut = next_cut T (p ∷ ps) in
    let row = unit_row T cut.unit in
    let later = left_later T p ps (prefix_length T (p ∷ ps)) (omega arith) once.1 in
    let more = keys_only (length cut.rest) T s v (after_unit T v after cut.unit) cut.rest (omega arith) later in
    let ks : List Key = row_keys s (weighted_row v after row) in
    let b : Bool = begins_cluster_with p row in
    let start : start_items (slice_get cut.unit 0) row ≡ cond b (ClusterStart 0 ∷ []) [] = ap (λ first. start_items first row) (slice_get-next_cut T (p ∷ ps) (omega arith)) ∙ ap (λ (at : ℕ). cond b (ClusterStart at ∷ []) []) once.0 in (
      b,
      ks ++ more.0,
      ap (items T s v after) (units-next_cut T (p ∷ ps) (omega arith))
          ∙ ap₂ (λ (starts rest : List Item). (starts ++ map (λ key. Element key) ks) ++ rest) start more.1
          ∙ append_assoc (cond b (ClusterStart 0 ∷ []) []) (map (λ key. Element key) ks) (map (λ key. Element key) more.0)
          ∙ ap (λ xs. cond b (ClusterStart 0 ∷ []) [] ++ xs) (sym (map-append (λ key. Element key) ks more.0)),
    )

keys_among : (b : Bool) (ks : List Key) (all : List Item) → all ≡ cond b (ClusterStart 0 ∷ []) [] ++ map (λ key. Element key) ks → item_keys all ≡ ks
keys_among true ks all is = ap item_keys is ∙ item_keys-map ks
keys_among false ks all is = ap item_keys is ∙ item_keys-map ks

-- more than a start and three keys
pub many_items : (T : TableMap) (w : Weigher) (ps : List Point) → 4 < length (items_by T w ps) → BeginsOnce ps → 3 < length (item_keys (items_by T w ps))
many_items T w ps many once =
    let parts = begins_once T w.strength w.variable w.after_variable ps once in
    let keys : length (item_keys (items_by T w ps)) ≡ length parts.1 = ap length (keys_among parts.0 parts.1 (items_by T w ps) parts.2) in
    let count : length (items_by T w ps) ≤ 1 + length parts.1 = counted parts.0 parts.1 (items_by T w ps) parts.2 in
    omega arith
  where
    counted : (b : Bool) (ks : List Key) (all : List Item) → all ≡ cond b (ClusterStart 0 ∷ []) [] ++ map (λ key. Element key) ks → length all ≤ 1 + length ks
    counted true ks all is = omega (arith, ap length is, length-map ks (λ key. Element key))
    counted false ks all is = omega (arith, ap length is, length-map ks (λ key. Element key))

-- items that are no start and three keys
pub other_items : (T : TableMap) (w : Weigher) (ps : List Point) (result : Option CharacterItems) (given : List Item) → given ≡ items_by T w ps → IfNone result ((begins : Bool) (keys : List Key) → given ≡ cond begins (ClusterStart 0 ∷ []) [] ++ map (λ key. Element key) keys → 3 < length keys) → IfNone result (BeginsOnce ps → 3 < length (item_keys (items_by T w ps)))
other_items T w ps (Some it) given all more = tt
other_items T w ps None given all more = λ once.
    let parts = begins_once T w.strength w.variable w.after_variable ps once in
    let keys : length (item_keys (items_by T w ps)) ≡ length parts.1 = ap length (keys_among parts.0 parts.1 (items_by T w ps) parts.2) in
    let many : 3 < length parts.1 = more parts.0 parts.1 (all ∙ parts.2) in
    omega arith
