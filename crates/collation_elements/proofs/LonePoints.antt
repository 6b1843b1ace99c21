-- The items of points that are units by themselves, and of points that begin with such a one that has a primary weight.
use Rattle.std.proofs.Common.{◌≡◌, ℕ, Bool, true, false, cond, ◌&&◌, ◌||◌, ◌==◌, List, [], ◌∷◌, ◌++◌, map, slice_get, get_or, length, drop, ◌+◌, ◌<◌, ◌≤◌, refl, sym, ◌∙◌, ap, ap₂, append-nil, append_assoc, arith}
use Rattle.std.proofs.lemmas.List.{drop_more, drop_all}
use Rattle.std.specs.Prelude.{nat_lt}
use Rattle.std.proofs.lemmas.Bool.{false≢true, eqb-true}
use Rattle.nfd_points.specs.declared.points.Point.{Point}
use Rattle.nfd_points.specs.Points.{shifted}
use Rattle.collation_table.specs.declared.elements.Element.{Element}
use Rattle.collation_table.specs.Table.{TableMap, BeginsNoLongerString}
use Rattle.collation_elements.specs.declared.settings.Strength.{Strength}
use Rattle.collation_elements.specs.declared.settings.Variable.TheVariants.{Shifted}
use Rattle.collation_elements.specs.declared.keys.Item.{Item}
use Rattle.collation_elements.specs.declared.character.CharacterItems.{CharacterItems}
use Rattle.collation_elements.specs.declared.weigher.Weigher.{Weigher}
use Rattle.collation_elements.specs.Units.{units, Cut}
use Rattle.collation_elements.specs.Elements.{unit_row, weighted_row, after_row, begins_primary, ignorable}
use Rattle.collation_elements.specs.Items.{start_items, key_items, items}
use Rattle.collation_elements.specs.CharacterItems.{AreItemsOfPoints, AreSameBehindVariable, character_items}
use Rattle.collation_elements.specs.declared.short.ShortItems.{ShortItems}
use Rattle.collation_elements.specs.ShortItems.{listed}
use Rattle.collation_elements.specs.UnitValues.{UnitValue, IsUnitOf}
use Rattle.collation_elements.specs.Weighing.{weigher_after, value_items, after_units}
use Rattle.collation_elements.specs.Windows.{next_cut}
use Rattle.collation_elements.proofs.Alone.{next_cut-alone, units-alone}
use Rattle.collation_elements.proofs.CharacterLaws.{items_by, after_by, items_by-cut, after_by-cut}

-- ---- points that are units by themselves

is-cut : (T : TableMap) (p : Point) (rest : List Point) (unit : UnitValue) → BeginsNoLongerString T p.cp → unit.first_point ≡ p → unit.elements ≡ unit_row T (p ∷ []) → IsUnitOf T (next_cut T (p ∷ rest)).unit unit
is-cut T p rest unit none first elements =
    let cut = next_cut-alone T (p ∷ rest) p refl none in
    record {
      first_point = ap (λ (c : Cut). slice_get c.unit 0) cut ∙ ap (λ (q : Point). slice_get (q ∷ []) 0) (sym first);
      elements = elements ∙ ap (λ (c : Cut). unit_row T c.unit) (sym cut);
    }

-- one point more
pub items-more : (T : TableMap) (w w1 : Weigher) (ps : List Point) (i : ℕ) (d : Point) (unit : UnitValue) (short : ShortItems) (it it1 : CharacterItems) (all : List Item) → i < length ps → BeginsNoLongerString T (get_or ps i d).cp → unit.first_point ≡ get_or ps i d → unit.elements ≡ unit_row T (get_or ps i d ∷ []) → w1 ≡ weigher_after w unit
    → listed short ≡ value_items w unit → character_items it1 0 ≡ character_items it 0 ++ listed short → character_items it 0 ++ items_by T w (drop i ps) ≡ all → character_items it1 0 ++ items_by T w1 (drop (i + 1) ps) ≡ all
items-more T w w1 ps i d unit short it it1 all here none first elements after given more so_far =
    let p : Point = get_or ps i d in
    let rest : List Point = drop (i + 1) ps in
    let cut = next_cut-alone T (p ∷ rest) p refl none in
    ap (λ (xs : List Item). xs ++ items_by T w1 rest) more
    ∙ append_assoc (character_items it 0) (listed short) (items_by T w1 rest)
    ∙ ap (λ (xs : List Item). character_items it 0 ++ (xs ++ items_by T w1 rest)) given
    ∙ ap (λ (xs : List Item). character_items it 0 ++ xs) (sym (items_by-cut T w w1 (p ∷ rest) rest unit (omega arith) (is-cut T p rest unit none first elements) (sym (ap (λ (c : Cut). c.rest) cut)) after))
    ∙ ap (λ (qs : List Point). character_items it 0 ++ items_by T w qs) (sym (drop_more ps i d here))
    ∙ so_far

pub after-more : (T : TableMap) (w w1 : Weigher) (ps : List Point) (i : ℕ) (d : Point) (unit : UnitValue) (all : Bool) → i < length ps → BeginsNoLongerString T (get_or ps i d).cp → unit.first_point ≡ get_or ps i d → unit.elements ≡ unit_row T (get_or ps i d ∷ []) → w1 ≡ weigher_after w unit
    → after_by T w (drop i ps) ≡ all → after_by T w1 (drop (i + 1) ps) ≡ all
after-more T w w1 ps i d unit all here none first elements after so_far =
    let p : Point = get_or ps i d in
    let rest : List Point = drop (i + 1) ps in
    let cut = next_cut-alone T (p ∷ rest) p refl none in
    sym (after_by-cut T w w1 (p ∷ rest) rest unit (omega arith) (is-cut T p rest unit none first elements) (sym (ap (λ (c : Cut). c.rest) cut)) after)
    ∙ ap (λ (qs : List Point). after_by T w qs) (sym (drop_more ps i d here))
    ∙ so_far

-- none is left
pub items-end : (T : TableMap) (w : Weigher) (ps : List Point) (i : ℕ) (it : CharacterItems) (all : List Item) → length ps ≤ i → character_items it 0 ++ items_by T w (drop i ps) ≡ all → character_items it 0 ≡ all
items-end T w ps i it all past so_far =
    sym (append-nil (character_items it 0)) ∙ ap (λ (qs : List Point). character_items it 0 ++ items_by T w qs) (sym (drop_all i ps past)) ∙ so_far

pub after-end : (T : TableMap) (w : Weigher) (ps : List Point) (i : ℕ) (all : Bool) → length ps ≤ i → after_by T w (drop i ps) ≡ all → w.after_variable ≡ all
after-end T w ps i all past so_far = ap (λ (qs : List Point). after_by T w qs) (sym (drop_all i ps past)) ∙ so_far

-- ---- a primary weight first

flag-anew : (b : Bool) (w : ℕ) → nat_lt 0 w ≡ true → cond b true (cond (nat_lt 0 w) false true) ≡ cond b true (cond (nat_lt 0 w) false false)
flag-anew b w some = ap (λ (n : Bool). cond b true (cond n false true)) some ∙ sym (ap (λ (n : Bool). cond b true (cond n false false)) some)

not-zero : (w : ℕ) (z : Bool) → (w == 0) ≡ z → nat_lt 0 w ≡ true → (w == 0) ≡ false
not-zero w true is some = absurd (false≢true (sym (ap (nat_lt 0) (eqb-true w 0 is)) ∙ some))
not-zero w false is some = is

element-anew : (b : Bool) (w : ℕ) (d e : Element) → nat_lt 0 w ≡ true → cond (b || (true && w == 0)) d e ≡ cond (b || (false && w == 0)) d e
element-anew b w d e some = ap (λ (z : Bool). cond (b || (true && z)) d e) (not-zero w (w == 0) refl some)

row-anew : (es : List Element) → begins_primary es ≡ true → weighted_row Shifted true es ≡ weighted_row Shifted false es
row-anew [] some = refl
row-anew (e ∷ es) some = ap₂ (λ (f : Element) (b : Bool). f ∷ weighted_row Shifted b es) (element-anew e.is_variable e.w1 ignorable e some) (flag-anew e.is_variable e.w1 some)

after-anew : (es : List Element) → begins_primary es ≡ true → after_row Shifted true es ≡ after_row Shifted false es
after-anew [] some = absurd (false≢true some)
after-anew (e ∷ es) some = ap (λ (b : Bool). after_row Shifted b es) (flag-anew e.is_variable e.w1 some)

items-anew : (T : TableMap) (s : Strength) (u : List Point) (us : List (List Point)) → begins_primary (unit_row T u) ≡ true → items T s Shifted true (u ∷ us) ≡ items T s Shifted false (u ∷ us)
items-anew T s u us some =
    let start : List Item = start_items (slice_get u 0) (unit_row T u) in
    ap₂ (λ (row : List Element) (b : Bool). (start ++ key_items s row) ++ items T s Shifted b us) (row-anew (unit_row T u) some) (after-anew (unit_row T u) some)

units-anew : (T : TableMap) (u : List Point) (us : List (List Point)) → begins_primary (unit_row T u) ≡ true → after_units T Shifted true (u ∷ us) ≡ after_units T Shifted false (u ∷ us)
units-anew T u us some = ap (λ (b : Bool). after_units T Shifted b us) (after-anew (unit_row T u) some)

same-behind-variable : (T : TableMap) (p : Point) (ps : List Point) → BeginsNoLongerString T p.cp → begins_primary (unit_row T (p ∷ [])) ≡ true → AreSameBehindVariable T (p ∷ ps)
same-behind-variable T p ps none some = λ s it is.
    let cut : (start : ℕ) → units T (map (shifted start) (p ∷ ps)) ≡ (shifted start p ∷ []) ∷ units T (map (shifted start) ps) = λ start. units-alone T (shifted start p) (map (shifted start) ps) none in (
      λ start. ap (items T s Shifted true) (cut start) ∙ items-anew T s (shifted start p ∷ []) (units T (map (shifted start) ps)) some ∙ sym (ap (items T s Shifted false) (cut start)) ∙ is.0 start,
      λ start. ap (after_units T Shifted true) (cut start) ∙ units-anew T (shifted start p ∷ []) (units T (map (shifted start) ps)) some ∙ sym (ap (after_units T Shifted false) (cut start)) ∙ is.1 start,
    )

pub begun-anew : (T : TableMap) (ps : List Point) (d : Point) → 1 ≤ length ps → BeginsNoLongerString T (get_or ps 0 d).cp → begins_primary (unit_row T (get_or ps 0 d ∷ [])) ≡ true → AreSameBehindVariable T ps
begun-anew T [] d some none primary = absurd (omega arith)
begun-anew T (p ∷ ps) d some none primary = same-behind-variable T p ps none primary
