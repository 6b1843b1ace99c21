-- What a pass over the rows finds of the elements of the whole table.
use Rattle.std.proofs.Common.{◌≡◌, ℕ, min, max, Bool, true, false, not, ◌&&◌, ◌||◌, cond, List, [], ◌∷◌, Option, Some, None, fold, refl, sym, ap, ◌∙◌, arith, nat_le, nat_lt, ◌==◌}
use Rattle.std.proofs.lemmas.Bool.Decides.{nat_tests}
use Rattle.std.proofs.Math.Bool.{and-false, or-false, or_assoc}
use Rattle.std.proofs.lemmas.Bool.{or_parts}
use Rattle.std.specs.List.{list_any}
use Rattle.collation_table.specs.declared.elements.Element.{Element}
use Rattle.collation_table.specs.Table.{TableMap, greatest}
use Rattle.collation_table.specs.WellFormed.{table_elements, is_primary, is_secondary, is_tertiary, is_follower, is_lead, is_high_variable, skips_level, breaks_pairs, breaks_wf1, breaks_wf2, breaks_wf3, breaks_wf4, breaks_pair_rule}
use Rattle.collation_table.specs.Bounds.{higher_second, higher_third, span_with, wider_span, is_too_light, is_within_span, is_unusual}

-- ---- WF2 by two bounds

list_any-same : {A : Type 0} (p q : A → Bool) → ((x : A) → p x ≡ q x) → (xs : List A) → list_any p xs ≡ list_any q xs
list_any-same p q same [] = refl
list_any-same p q same (x ∷ xs) = ap (λ b. b || list_any p xs) (same x) ∙ ap (λ b. q x || b) (list_any-same p q same xs)

or_swap : (a b c d : Bool) → ((a || b) || (c || d)) ≡ ((a || c) || (b || d))
or_swap true b true d = refl
or_swap true b false d = refl
or_swap false true true d = refl
or_swap false true false true = refl
or_swap false true false false = refl
or_swap false false true d = refl
or_swap false false false d = refl

list_any-or : {A : Type 0} (p q : A → Bool) (xs : List A) → (list_any p xs || list_any q xs) ≡ list_any (λ x. p x || q x) xs
list_any-or p q [] = refl
list_any-or p q (x ∷ xs) = or_swap (p x) (list_any p xs) (q x) (list_any q xs) ∙ ap (λ b. (p x || q x) || b) (list_any-or p q xs)

le_max : (x m w : ℕ) → nat_le x (max m w) ≡ (nat_le x m || nat_le x w)
le_max x m w = grind (arith, nat_tests)

min_le : (x m w : ℕ) → nat_le (min m w) x ≡ (nat_le m x || nat_le w x)
min_le x m w = grind (arith, nat_tests)

-- whether x is at most the heaviest weight is whether it is at most one of them
le_step : (x m w : ℕ) (b : Bool) → nat_le x (cond b (max m w) m) ≡ (nat_le x m || (b && nat_le x w))
le_step x m w true = le_max x m w
le_step x m w false = sym (or-false (nat_le x m))

le_fold : (kind : Element → Bool) (weight : Element → ℕ) (x m : ℕ) (es : List Element)
    → nat_le x (fold (λ most e. cond (kind e) (max most (weight e)) most) m es) ≡ (nat_le x m || list_any (λ p. kind p && nat_le x (weight p)) es)
le_fold kind weight x m [] = sym (or-false (nat_le x m))
le_fold kind weight x m (e ∷ es) =
    le_fold kind weight x (cond (kind e) (max m (weight e)) m) es
    ∙ ap (λ b. b || list_any (λ p. kind p && nat_le x (weight p)) es) (le_step x m (weight e) (kind e))
    ∙ or_assoc (nat_le x m) (kind e && nat_le x (weight e)) (list_any (λ p. kind p && nat_le x (weight p)) es)

pub breaks_wf2-by_bounds : (T : TableMap) → breaks_wf2 T ≡ list_any (is_too_light (fold higher_second 0x20 (table_elements T)) (fold higher_third 2 (table_elements T))) (table_elements T)
breaks_wf2-by_bounds T = by (table_elements T)
  where
    by : (es : List Element)
        → (list_any (λ s. is_secondary s && (nat_le s.w2 0x20 || list_any (λ p. is_primary p && nat_le s.w2 p.w2) es)) es
        || list_any (λ t. is_tertiary t && (nat_le t.w3 2 || list_any (λ p. (is_primary p || is_secondary p) && nat_le t.w3 p.w3) es)) es)
        ≡ list_any (is_too_light (fold higher_second 0x20 es) (fold higher_third 2 es)) es
    by es =
        list_any-or _ _ es
        ∙ list_any-same _ (is_too_light (fold higher_second 0x20 es) (fold higher_third 2 es)) (λ e.
        ap (λ b. (is_secondary e && b) || (is_tertiary e && (nat_le e.w3 2 || list_any (λ p. (is_primary p || is_secondary p) && nat_le e.w3 p.w3) es))) (sym (le_fold is_primary (λ p. p.w2) e.w2 0x20 es))
        ∙ ap (λ b. (is_secondary e && nat_le e.w2 (fold higher_second 0x20 es)) || (is_tertiary e && b)) (sym (le_fold (λ p. is_primary p || is_secondary p) (λ p. p.w3) e.w3 2 es))) es

-- ---- WF4 by the span of the variable weights

at_or_above : Option (ℕ × ℕ) → ℕ → Bool
at_or_above None x = false
at_or_above (Some span) x = nat_le span.0 x

at_or_below : Option (ℕ × ℕ) → ℕ → Bool
at_or_below None x = false
at_or_below (Some span) x = nat_le x span.1

above_step : (x w : ℕ) (b : Bool) (span : Option (ℕ × ℕ)) → at_or_above (cond b (span_with span w) span) x ≡ (at_or_above span x || (b && nat_le w x))
unfolding at_or_above
above_step x w true None = refl
above_step x w true (Some span) = min_le x span.0 w
above_step x w false span = sym (or-false (at_or_above span x))

below_step : (x w : ℕ) (b : Bool) (span : Option (ℕ × ℕ)) → at_or_below (cond b (span_with span w) span) x ≡ (at_or_below span x || (b && nat_le x w))
unfolding at_or_below
below_step x w true None = refl
below_step x w true (Some span) = le_max x span.1 w
below_step x w false span = sym (or-false (at_or_below span x))

above_fold : (x : ℕ) (span : Option (ℕ × ℕ)) (es : List Element) → at_or_above (fold wider_span span es) x ≡ (at_or_above span x || list_any (λ v. v.is_variable && nat_le v.w1 x) es)
above_fold x span [] = sym (or-false (at_or_above span x))
above_fold x span (e ∷ es) =
    above_fold x (wider_span span e) es
    ∙ ap (λ b. b || list_any (λ v. v.is_variable && nat_le v.w1 x) es) (above_step x e.w1 e.is_variable span)
    ∙ or_assoc (at_or_above span x) (e.is_variable && nat_le e.w1 x) (list_any (λ v. v.is_variable && nat_le v.w1 x) es)

below_fold : (x : ℕ) (span : Option (ℕ × ℕ)) (es : List Element) → at_or_below (fold wider_span span es) x ≡ (at_or_below span x || list_any (λ v. v.is_variable && nat_le x v.w1) es)
below_fold x span [] = sym (or-false (at_or_below span x))
below_fold x span (e ∷ es) =
    below_fold x (wider_span span e) es
    ∙ ap (λ b. b || list_any (λ v. v.is_variable && nat_le x v.w1) es) (below_step x e.w1 e.is_variable span)
    ∙ or_assoc (at_or_below span x) (e.is_variable && nat_le x e.w1) (list_any (λ v. v.is_variable && nat_le x v.w1) es)

wf4_by_span : (span : Option (ℕ × ℕ)) (es : List Element) → fold wider_span None es ≡ span
    → list_any (λ p. is_primary p && not p.is_variable && list_any (λ v. v.is_variable && nat_le v.w1 p.w1) es && list_any (λ v. v.is_variable && nat_le p.w1 v.w1) es) es
    ≡ list_any (λ p. is_primary p && not p.is_variable && at_or_above span p.w1 && at_or_below span p.w1) es
unfolding at_or_above at_or_below
wf4_by_span span es is =
    list_any-same _ (λ p. is_primary p && not p.is_variable && at_or_above span p.w1 && at_or_below span p.w1) (λ p.
    ap (λ b. is_primary p && not p.is_variable && b && list_any (λ v. v.is_variable && nat_le p.w1 v.w1) es) (sym (above_fold p.w1 None es) ∙ ap (λ s. at_or_above s p.w1) is)
    ∙ ap (λ b. is_primary p && not p.is_variable && at_or_above span p.w1 && b) (sym (below_fold p.w1 None es) ∙ ap (λ s. at_or_below s p.w1) is)) es

pub breaks_wf4-by_span : (T : TableMap) (least greatest : ℕ) → fold wider_span None (table_elements T) ≡ Some (least, greatest) → breaks_wf4 T ≡ list_any (is_within_span least greatest) (table_elements T)
unfolding at_or_above at_or_below
breaks_wf4-by_span T least greatest is = wf4_by_span (Some (least, greatest)) (table_elements T) is

none_passes : (p : Element → Bool) → ((e : Element) → p e ≡ false) → (es : List Element) → list_any p es ≡ false
none_passes p fails [] = refl
none_passes p fails (e ∷ es) = ap (λ b. b || list_any p es) (fails e) ∙ none_passes p fails es

pub breaks_wf4-no_variable : (T : TableMap) → fold wider_span None (table_elements T) ≡ None → breaks_wf4 T ≡ false
unfolding at_or_above at_or_below
breaks_wf4-no_variable T is =
    wf4_by_span None (table_elements T) is ∙ none_passes _ (λ p. and-false (is_primary p && not p.is_variable && false)) (table_elements T)

-- ---- the conditions on a row where no element is unusual

record BreaksNothing (e : Element) : Type 0 where
  wf1 : skips_level e ≡ false
  wf3 : (e.is_variable && (e.w1 == 0)) ≡ false
  follower : is_follower e ≡ false
  high : is_high_variable e ≡ false
  lead : is_lead e ≡ false

low : (w : ℕ) → nat_le 0x8000 w ≡ false → nat_le 0xFB00 w ≡ false
low w below = grind (arith, nat_tests)

usual : (e : Element) → is_unusual e ≡ false → BreaksNothing e
usual e none = record {
  wf1 = ap (λ b. not (is_follower e) && b) ((λ i. first.1 i || second.1 i)) ∙ and-false (not (is_follower e));
  wf3 = third.1;
  follower = (λ i. not e.is_variable && first.0 i && (e.w2 == 0) && (e.w3 == 0)) ∙ (λ i. and-false (not e.is_variable) i && (e.w2 == 0) && (e.w3 == 0));
  high = ap (λ b. e.is_variable && b) (low e.w1 first.0) ∙ and-false e.is_variable;
  lead = (λ i. not e.is_variable && (low e.w1 first.0 i && nat_le e.w1 0xFBFF) && not (is_follower e)) ∙ (λ i. and-false (not e.is_variable) i && not (is_follower e));
}
  where
    third : ((nat_le 0x8000 e.w1 || (nat_lt 0 e.w1 && (e.w2 == 0)) || (nat_lt 0 e.w2 && (e.w3 == 0))) ≡ false) × ((e.is_variable && (e.w1 == 0)) ≡ false)
    third = or_parts _ _ none

    second : ((nat_le 0x8000 e.w1 || (nat_lt 0 e.w1 && (e.w2 == 0))) ≡ false) × ((nat_lt 0 e.w2 && (e.w3 == 0)) ≡ false)
    second = or_parts _ _ third.0

    first : (nat_le 0x8000 e.w1 ≡ false) × ((nat_lt 0 e.w1 && (e.w2 == 0)) ≡ false)
    first = or_parts _ _ second.0

pub usual-row : (row : List Element) → list_any is_unusual row ≡ false → (breaks_wf1 row ≡ false) × (breaks_wf3 row ≡ false) × (breaks_pair_rule row ≡ false)
usual-row [] none = (refl, refl, refl)
usual-row (e ∷ row) none =
    let parts = or_parts (is_unusual e) (list_any is_unusual row) none in
    let here = usual e parts.0 in
    let rest = usual-row row parts.1 in
    ((λ i. here.wf1 i || rest.0 i), (λ i. here.wf3 i || rest.1 i), (λ i. here.follower i || here.high i || breaks_pairs (here.lead i) row) ∙ rest.2)
