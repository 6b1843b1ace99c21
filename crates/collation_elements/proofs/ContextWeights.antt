-- A row whose first element has a primary weight is weighted as at the beginning of a text, and so are those after it.
use Rattle.std.proofs.Common.{◌≡◌, ℕ, ◌<◌, Bool, true, false, ◌||◌, ◌==◌, nat_lt, List, [], ◌∷◌, ◌++◌, map, flat_map, refl, sym, ap, ap₂, ◌∙◌, arith, if◌then◌else◌, ltb-true}
use Rattle.std.proofs.lemmas.Bool.{and_right, ne_eqb}
use Rattle.nfd_points.specs.declared.points.Point.{Point}
use Rattle.nfd_points.specs.Points.{shifted}
use Rattle.collation_table.specs.declared.elements.Element.{Element}
use Rattle.collation_table.specs.Table.{TableMap}
use Rattle.collation_elements.specs.declared.settings.Variable.{Variable}
use Rattle.collation_elements.specs.declared.settings.Variable.TheVariants.{NonIgnorable, Shifted}
use Rattle.collation_elements.specs.declared.settings.Strength.{Strength}
use Rattle.collation_elements.specs.declared.keys.Key.{Key}
use Rattle.collation_elements.specs.Elements.{unit_row, after_variable, shifted_element, weighted_row, after_row, weighted_rows, begins_primary, ignorable}
use Rattle.collation_elements.specs.Keys.{row_keys}
use Rattle.collation_elements.specs.Items.{after_unit}
use Rattle.collation_elements.specs.Context.{PrimariesSettleWeighting}
use Rattle.collation_elements.proofs.ContextOffsets.{unit_row-shift}

-- ---- one row

no_zero : (n : ℕ) → nat_lt 0 n ≡ true → (n == 0) ≡ false
no_zero n h = ne_eqb n 0 (λ e. let above : 0 < n = ltb-true 0 n h in omega arith)

-- an element with a primary weight settles what follows it
after_variable-primary : (after : Bool) (e : Element) → nat_lt 0 e.w1 ≡ true → after_variable after e ≡ after_variable false e
after_variable-primary after e h = ap (λ t. if e.is_variable then true else (if t then false else after)) h ∙ sym (ap (λ t. if e.is_variable then true else (if t then false else false)) h)

shifted_element-primary : (after : Bool) (e : Element) → nat_lt 0 e.w1 ≡ true → shifted_element after e ≡ shifted_element false e
shifted_element-primary after e h =
    ap (λ t. if e.is_variable || t then ignorable else e) (and_right after (e.w1 == 0) (no_zero e.w1 h))

weighted_row-primary : (after : Bool) (es : List Element) → begins_primary es ≡ true → weighted_row Shifted after es ≡ weighted_row Shifted false es
weighted_row-primary after [] h = refl
weighted_row-primary after (e ∷ es) h =
    ap₂ (λ x flag. x ∷ weighted_row Shifted flag es) (shifted_element-primary after e h) (after_variable-primary after e h)

after_row-primary : (after : Bool) (es : List Element) → begins_primary es ≡ true → after_row Shifted after es ≡ after_row Shifted false es
after_row-primary after [] h = absurd cc
after_row-primary after (e ∷ es) h = ap (λ flag. after_row Shifted flag es) (after_variable-primary after e h)

-- ---- rows

pub weighted_rows-non_ignorable : (after other : Bool) (rs : List (List Element)) → weighted_rows NonIgnorable after rs ≡ weighted_rows NonIgnorable other rs
weighted_rows-non_ignorable after other [] = refl
weighted_rows-non_ignorable after other (r ∷ rs) = ap (λ l. r ∷ l) (weighted_rows-non_ignorable after other rs)

pub weighted_rows-primary : PrimariesSettleWeighting
weighted_rows-primary NonIgnorable after r rs h = weighted_rows-non_ignorable after false (r ∷ rs)
weighted_rows-primary Shifted after r rs h =
    ap₂ (λ x flag. x ∷ weighted_rows Shifted flag rs) (weighted_row-primary after r h) (after_row-primary after r h)

-- whether the last element of some rows that was variable or primary was variable
abbrev pub after_rows : Variable → Bool → List (List Element) → Bool
after_rows variable after [] = after
after_rows variable after (r ∷ rs) = after_rows variable (after_row variable after r) rs

pub weighted_rows-append : (variable : Variable) (after : Bool) (rs qs : List (List Element)) → weighted_rows variable after (rs ++ qs) ≡ weighted_rows variable after rs ++ weighted_rows variable (after_rows variable after rs) qs
weighted_rows-append variable after [] qs = refl
weighted_rows-append variable after (r ∷ rs) qs =
    ap (λ l. weighted_row variable after r ∷ l) (weighted_rows-append variable (after_row variable after r) rs qs)

-- ---- the keys of some units

abbrev pub keys_of : TableMap → Strength → Variable → Bool → List (List Point) → List Key
keys_of table strength variable after [] = []
keys_of table strength variable after (u ∷ us) =
    row_keys strength (weighted_row variable after (unit_row table u)) ++ keys_of table strength variable (after_unit table variable after u) us

pub keys_of-rows : (table : TableMap) (strength : Strength) (variable : Variable) (after : Bool) (us : List (List Point)) → keys_of table strength variable after us ≡ flat_map (row_keys strength) (weighted_rows variable after (map (unit_row table) us))
keys_of-rows table strength variable after [] = refl
keys_of-rows table strength variable after (u ∷ us) =
    ap (λ l. row_keys strength (weighted_row variable after (unit_row table u)) ++ l) (keys_of-rows table strength variable (after_unit table variable after u) us)

pub keys_of-primary : (table : TableMap) (strength : Strength) (variable : Variable) (after : Bool) (u : List Point) (us : List (List Point)) → begins_primary (unit_row table u) ≡ true → keys_of table strength variable after (u ∷ us) ≡ keys_of table strength variable false (u ∷ us)
keys_of-primary table strength variable after u us h =
    keys_of-rows table strength variable after (u ∷ us)
    ∙ ap (flat_map (row_keys strength)) (weighted_rows-primary variable after (unit_row table u) (map (unit_row table) us) h)
    ∙ sym (keys_of-rows table strength variable false (u ∷ us))

pub keys_of-shift : (table : TableMap) (strength : Strength) (variable : Variable) (after : Bool) (by : ℕ) (us : List (List Point)) → keys_of table strength variable after (map (map (shifted by)) us) ≡ keys_of table strength variable after us
keys_of-shift table strength variable after by [] = refl
keys_of-shift table strength variable after by (u ∷ us) =
    ap (λ row. row_keys strength (weighted_row variable after row) ++ keys_of table strength variable (after_row variable after row) (map (map (shifted by)) us)) (unit_row-shift table by u)
    ∙ ap (λ l. row_keys strength (weighted_row variable after (unit_row table u)) ++ l) (keys_of-shift table strength variable (after_unit table variable after u) by us)
