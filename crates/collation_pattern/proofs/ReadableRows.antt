-- The keys of the rows of a well-formed table, and of implicit pairs, can be read from their levels in one way only.
use Rattle.std.specs.List.{AllByRecursion}
use Rattle.std.specs.Int.{is_in_range}
use Rattle.std.specs.Prelude.{IsTrue}
use Rattle.std.proofs.Common.{◌≡◌, ℕ, ◌<◌, ◌≤◌, Bool, true, false, not, ◌&&◌, ◌||◌, ◌==◌, nat_lt, nat_le, List, [], ◌∷◌, ◌++◌, ◌⊎◌, inl, inr, sym, ◌∙◌, ap, arith, refl}
use Rattle.std.proofs.lemmas.Bool.{cases_Bool, and_parts, or_cases, ltb-true, ltb-false, leb-true, leb-false, le-leb, lt-ltb, eq-eqb, eqb-true, eqb-false, both_ways, not-true}
use Rattle.collation_table.specs.declared.elements.Element.{Element}
use Rattle.collation_table.specs.Table.{TableMap}
use Rattle.collation_table.specs.WellFormed.{is_lead, is_follower, is_primary, is_secondary, is_tertiary, is_high_variable, skips_level, breaks_pairs, HasElement, IsWf2}
use Rattle.collation_elements.specs.declared.settings.Strength.{Strength}
use Rattle.collation_elements.specs.declared.settings.Strength.TheVariants.{One, Two, Three}
use Rattle.collation_elements.specs.declared.settings.Variable.{Variable}
use Rattle.collation_elements.specs.declared.settings.Variable.TheVariants.{NonIgnorable, Shifted}
use Rattle.collation_elements.specs.declared.keys.Key.{Key}
use Rattle.collation_elements.specs.declared.keys.Key.TheVariants.{Primary}
use Rattle.collation_elements.specs.Elements.{ignorable, after_variable, shifted_element, weighted_row}
use Rattle.collation_elements.specs.Keys.{second_at, third_at, element_keys, pair_key, row_keys}
use Rattle.collation_pattern.proofs.KeyLists.{Scale, IsReadable, AreReadable}

-- ---- the weights of a table

abbrev pub LowSecond : TableMap → ℕ → Type 0
LowSecond T b = (b ≡ 0x20) ⊎ ((e : Element) × HasElement T e × IsTrue (is_primary e) × (b ≡ e.w2))

abbrev pub HighSecond : TableMap → ℕ → Type 0
HighSecond T b = (e : Element) × HasElement T e × IsTrue (is_secondary e) × (b ≡ e.w2)

abbrev pub LowThird : TableMap → ℕ → Type 0
LowThird T c = (c ≡ 2) ⊎ ((e : Element) × HasElement T e × IsTrue (is_primary e || is_secondary e) × (c ≡ e.w3))

abbrev pub HighThird : TableMap → ℕ → Type 0
HighThird T c = (e : Element) × HasElement T e × IsTrue (is_tertiary e) × (c ≡ e.w3)

pub seconds_apart : (T : TableMap) → IsWf2 T → (b c : ℕ) → LowSecond T b → HighSecond T c → b < c
seconds_apart T wf b c (inl low) high = let above = wf.secondary_implicit high.0 high.1 high.2 in let here = high.3 in omega arith
seconds_apart T wf b c (inr low) high = let above = wf.secondary high.0 low.0 high.1 low.1 high.2 low.2 in let here = high.3 in let there = low.3 in omega arith

pub thirds_apart : (T : TableMap) → IsWf2 T → (b c : ℕ) → LowThird T b → HighThird T c → b < c
thirds_apart T wf b c (inl low) high = let above = wf.tertiary_implicit high.0 high.1 high.2 in let here = high.3 in omega arith
thirds_apart T wf b c (inr low) high = let above = wf.tertiary high.0 low.0 high.1 low.1 high.2 low.2 in let here = high.3 in let there = low.3 in omega arith

abbrev pub scale_of : (T : TableMap) → IsWf2 T → Scale
scale_of T wf = record {
  low2 = LowSecond T;
  high2 = HighSecond T;
  low3 = LowThird T;
  high3 = HighThird T;
  apart2 = seconds_apart T wf;
  apart3 = thirds_apart T wf;
}

-- ---- one element

-- an element of a table that is no part of a pair
record IsUnpaired (T : TableMap) (e : Element) : Type 0 where
  pub has : HasElement T e
  pub keeps : skips_level e ≡ false
  no_follower : is_follower e ≡ false
  no_lead : is_lead e ≡ false
  low : is_high_variable e ≡ false

pub or_false : (x y : Bool) → (x || y) ≡ false → (x ≡ false) × (y ≡ false)
or_false true y h = cc
or_false false true h = cc
or_false false false h = (refl, refl)

-- an element that skips no level has a second weight where it has a first one, and a third where it has a second
has_second : (e : Element) → skips_level e ≡ false → is_follower e ≡ false → 0 < e.w1 → 0 < e.w2
has_second e keeps no_follower h =
    let skips : (not (is_follower e) && ((nat_lt 0 e.w1 && (e.w2 == 0)) || (nat_lt 0 e.w2 && (e.w3 == 0)))) ≡ false = keeps in
    let both = rw no_follower at skips in
    let first = (or_false (nat_lt 0 e.w1 && (e.w2 == 0)) (nat_lt 0 e.w2 && (e.w3 == 0)) both).0 in
    let test = lt-ltb 0 e.w1 h in
    let zero = rw test at first in
    let there : e.w2 ≡ 0 → ⊥ = eqb-false e.w2 0 zero in omega arith

has_third : (e : Element) → skips_level e ≡ false → is_follower e ≡ false → 0 < e.w2 → 0 < e.w3
has_third e keeps no_follower h =
    let skips : (not (is_follower e) && ((nat_lt 0 e.w1 && (e.w2 == 0)) || (nat_lt 0 e.w2 && (e.w3 == 0)))) ≡ false = keeps in
    let both = rw no_follower at skips in
    let second = (or_false (nat_lt 0 e.w1 && (e.w2 == 0)) (nat_lt 0 e.w2 && (e.w3 == 0)) both).1 in
    let test = lt-ltb 0 e.w2 h in
    let zero = rw test at second in
    let there : e.w3 ≡ 0 → ⊥ = eqb-false e.w3 0 zero in omega arith

-- its first weight is no lead's
outside : (T : TableMap) (e : Element) → IsUnpaired T e → 0xFB00 ≤ e.w1 → 0xFBFF < e.w1
outside T e p h = elim (cases_Bool e.is_variable) [
  | inl is ↦
      let high : (e.is_variable && nat_le 0xFB00 e.w1) ≡ false = p.low in
      let test : nat_le 0xFB00 e.w1 ≡ false = rw is at high in
      absurd (both_ways _ test (le-leb 0xFB00 e.w1 h))
  | inr is ↦
      let lead : (not e.is_variable && is_in_range 0xFB00 0xFBFF e.w1 && not (is_follower e)) ≡ false = p.no_lead in
      let plain = p.no_follower in
      let low = le-leb 0xFB00 e.w1 h in
      elim (cases_Bool (nat_le e.w1 0xFBFF)) [
        | inl below ↦ let one : true ≡ false = rw (plain, is, low, below) at lead in cc
        | inr above ↦ leb-false e.w1 0xFBFF above
      ]
]

primary_true : (T : TableMap) (e : Element) → IsUnpaired T e → nat_lt 0 e.w1 ≡ true → is_primary e ≡ true
primary_true T e p h = let plain = p.no_follower in rw (h, plain) refl

not_first : (e : Element) → nat_lt 0 e.w1 ≡ false → (e.w1 == 0) ≡ true
not_first e h = eq-eqb e.w1 0 (let low = ltb-false 0 e.w1 h in omega arith)

not_second : (e : Element) → nat_lt 0 e.w2 ≡ false → (e.w2 == 0) ≡ true
not_second e h = eq-eqb e.w2 0 (let low = ltb-false 0 e.w2 h in omega arith)

secondary_true : (e : Element) → nat_lt 0 e.w1 ≡ false → nat_lt 0 e.w2 ≡ true → is_secondary e ≡ true
secondary_true e h k = let first = not_first e h in rw (first, k) refl

tertiary_true : (e : Element) → nat_lt 0 e.w1 ≡ false → nat_lt 0 e.w2 ≡ false → nat_lt 0 e.w3 ≡ true → is_tertiary e ≡ true
tertiary_true e h k l = let first = not_first e h in let second = not_second e k in rw (first, second, l) refl

-- ---- the keys of one element

primary_readable : (T : TableMap) (wf : IsWf2 T) (s : Strength) (e : Element) → IsUnpaired T e → nat_lt 0 e.w1 ≡ true →
    IsReadable (scale_of T wf) s (Primary e.w1 (second_at s e.w2) (third_at s e.w3))
primary_readable T wf One e p h = (ltb-true 0 e.w1 h, outside T e p, refl, refl)
primary_readable T wf Two e p h =
    let second = has_second e p.keeps p.no_follower (ltb-true 0 e.w1 h) in
    (ltb-true 0 e.w1 h, outside T e p, (second, inr (e, p.has, primary_true T e p h, refl)), refl)
primary_readable T wf Three e p h =
    let second = has_second e p.keeps p.no_follower (ltb-true 0 e.w1 h) in
    let primary = primary_true T e p h in
    let either : (is_primary e || is_secondary e) ≡ true = rw primary refl in
    (ltb-true 0 e.w1 h, outside T e p, (second, inr (e, p.has, primary, refl)), (has_third e p.keeps p.no_follower second, inr (e, p.has, either, refl)))

or_right : (x y : Bool) → y ≡ true → (x || y) ≡ true
or_right true y h = refl
or_right false y h = h

element_readable : (T : TableMap) (wf : IsWf2 T) (s : Strength) (e : Element) → IsUnpaired T e → AreReadable (scale_of T wf) s (element_keys s e)
element_readable T wf One e p = elim (cases_Bool (nat_lt 0 e.w1)) [ inl h ↦ simp h (primary_readable T wf One e p h, tt) | inr h ↦ simp h tt ]
element_readable T wf Two e p =
    elim (cases_Bool (nat_lt 0 e.w1)) [
      | inl h ↦ simp h (primary_readable T wf Two e p h, tt)
      | inr h ↦ elim (cases_Bool (nat_lt 0 e.w2)) [
        | inl k ↦ simp (h, k) (((ltb-true 0 e.w2 k, (e, p.has, secondary_true e h k, refl)), refl), tt)
        | inr k ↦ simp (h, k) tt
      ]
    ]
element_readable T wf Three e p =
    elim (cases_Bool (nat_lt 0 e.w1)) [
      | inl h ↦ simp h (primary_readable T wf Three e p h, tt)
      | inr h ↦ elim (cases_Bool (nat_lt 0 e.w2)) [
        | inl k ↦
            let some = ltb-true 0 e.w2 k in
            let secondary = secondary_true e h k in
            let low = has_third e p.keeps p.no_follower some in
            simp (h, k) (((some, (e, p.has, secondary, refl)), (low, inr (e, p.has, or_right (is_primary e) (is_secondary e) secondary, refl))), tt)
        | inr k ↦ elim (cases_Bool (nat_lt 0 e.w3)) [
          | inl l ↦ simp (h, k, l) ((ltb-true 0 e.w3 l, (e, p.has, tertiary_true e h k l, refl)), tt)
          | inr l ↦ simp (h, k, l) tt
        ]
      ]
    ]

ignorable_readable : (T : TableMap) (wf : IsWf2 T) (s : Strength) → AreReadable (scale_of T wf) s (element_keys s ignorable)
ignorable_readable T wf One = tt
ignorable_readable T wf Two = tt
ignorable_readable T wf Three = tt

-- ---- a pair

pair_readable : (T : TableMap) (wf : IsWf2 T) (s : Strength) (e f : Element) → is_lead e ≡ true → is_follower f ≡ true →
    0 < e.w2 → LowSecond T e.w2 → 0 < e.w3 → LowThird T e.w3 → IsReadable (scale_of T wf) s (pair_key s e f)
pair_readable T wf s e f lead follower some2 low2 some3 low3 =
    let parts = and_parts (not e.is_variable && is_in_range 0xFB00 0xFBFF e.w1) (not (is_follower e)) lead in
    let between = and_parts (nat_le 0xFB00 e.w1) (nat_le e.w1 0xFBFF) (and_parts (not e.is_variable) (is_in_range 0xFB00 0xFBFF e.w1) parts.0).1 in
    let prefix = and_parts (not f.is_variable && nat_le 0x8000 f.w1 && (f.w2 == 0)) (f.w3 == 0) follower in
    let form = and_parts (not f.is_variable && nat_le 0x8000 f.w1) (f.w2 == 0) prefix.0 in
    let high = leb-true 0x8000 f.w1 (and_parts (not f.is_variable) (nat_le 0x8000 f.w1) form.0).1 in
    elim s as (λ r. IsReadable (scale_of T wf) r (pair_key r e f)) [
      | One ↦ (leb-true 0xFB00 e.w1 between.0, leb-true e.w1 0xFBFF between.1, omega arith, refl, refl)
      | Two ↦ (leb-true 0xFB00 e.w1 between.0, leb-true e.w1 0xFBFF between.1, omega arith, (some2, low2), refl)
      | Three ↦ (leb-true 0xFB00 e.w1 between.0, leb-true e.w1 0xFBFF between.1, omega arith, (some2, low2), (some3, low3))
    ]

-- ---- a row under variable weighting

-- an element under variable weighting: itself, or ignorable where it is no part of a pair
abbrev pub Weighs : Element → Element → Type 0
Weighs w e = (w ≡ e) ⊎ ((w ≡ ignorable) × (is_lead e ≡ false) × (is_follower e ≡ false))

abbrev pub WeighsRow : List Element → List Element → Type 0
WeighsRow [] [] = Unit {0}
WeighsRow (w ∷ ws) (e ∷ es) = Weighs w e × WeighsRow ws es
WeighsRow _ _ = ⊥

same_row : (es : List Element) → WeighsRow es es
same_row [] = tt
same_row (e ∷ es) = (inl refl, same_row es)

variable_is_none : (e : Element) → e.is_variable ≡ true → (is_lead e ≡ false) × (is_follower e ≡ false)
variable_is_none e h = (rw h refl, rw h refl)

zero_is_none : (e : Element) → (e.w1 == 0) ≡ true → (is_lead e ≡ false) × (is_follower e ≡ false)
zero_is_none e h =
    let zero = eqb-true e.w1 0 h in
    elim (cases_Bool e.is_variable) [ inl is ↦ variable_is_none e is | inr is ↦ (rw (is, zero) refl, rw (is, zero) refl) ]

shifted_weighs : (after : Bool) (e : Element) → Weighs (shifted_element after e) e
shifted_weighs after e =
    elim (cases_Bool (e.is_variable || (after && (e.w1 == 0)))) [
      | inr h ↦ inl (rw h refl)
      | inl h ↦
          let none : (is_lead e ≡ false) × (is_follower e ≡ false) = elim (or_cases e.is_variable (after && (e.w1 == 0)) h) [
            | inl is ↦ variable_is_none e is
            | inr low ↦ zero_is_none e (and_parts after (e.w1 == 0) low).1
          ] in
          inr (rw h refl, none.0, none.1)
    ]

pub weighs_row : (v : Variable) (after : Bool) (es : List Element) → WeighsRow (weighted_row v after es) es
weighs_row NonIgnorable after es = same_row es
weighs_row Shifted after [] = tt
weighs_row Shifted after (e ∷ es) = (shifted_weighs after e, weighs_row Shifted (after_variable after e) es)

lead_same : (w e : Element) → Weighs w e → is_lead w ≡ is_lead e
lead_same w e (inl same) = ap is_lead same
lead_same w e (inr (none, lead, follower)) = ap is_lead none ∙ sym lead

follower_same : (w e : Element) → Weighs w e → is_follower w ≡ is_follower e
follower_same w e (inl same) = ap is_follower same
follower_same w e (inr (none, lead, follower)) = ap is_follower none ∙ sym follower

-- what is known of an element of a sound row
pub record IsSound (T : TableMap) (e : Element) : Type 0 where
  pub has : HasElement T e
  pub keeps : skips_level e ≡ false

weighted_readable : (T : TableMap) (wf : IsWf2 T) (s : Strength) (w e : Element) → IsSound T e → is_follower e ≡ false → is_high_variable e ≡ false → is_lead e ≡ false →
    Weighs w e → AreReadable (scale_of T wf) s (element_keys s w)
weighted_readable T wf s w e sound follower high lead (inl same) =
    rw same (element_readable T wf s e (record { has = sound.has; keeps = sound.keeps; no_follower = follower; no_lead = lead; low = high }))
weighted_readable T wf s w e sound follower high lead (inr (none, b, c)) = rw none (ignorable_readable T wf s)

pub AreReadable-append : (S : Scale) (s : Strength) (ks ls : List Key) → AreReadable S s ks → AreReadable S s ls → AreReadable S s (ks ++ ls)
AreReadable-append S s [] ls hk hl = hl
AreReadable-append S s (k ∷ ks) ls hk hl = (hk.0, AreReadable-append S s ks ls hk.1 hl)

not_false : (b : Bool) → not b ≡ false → b ≡ true
not_false true h = refl
not_false false h = cc

-- the weights of an element that begins a pair, in a row of a table
leading : (T : TableMap) (e : Element) → IsSound T e → is_lead e ≡ true → (0 < e.w2) × LowSecond T e.w2 × (0 < e.w3) × LowThird T e.w3
leading T e sound lead =
    let parts = and_parts (not e.is_variable && is_in_range 0xFB00 0xFBFF e.w1) (not (is_follower e)) lead in
    let between = and_parts (nat_le 0xFB00 e.w1) (nat_le e.w1 0xFBFF) (and_parts (not e.is_variable) (is_in_range 0xFB00 0xFBFF e.w1) parts.0).1 in
    let low = leb-true 0xFB00 e.w1 between.0 in
    let follower : is_follower e ≡ false = not-true (is_follower e) parts.1 in
    let first = lt-ltb 0 e.w1 (omega arith) in
    let primary : is_primary e ≡ true = rw (first, follower) refl in
    let either : (is_primary e || is_secondary e) ≡ true = rw primary refl in
    let second = has_second e sound.keeps follower (omega arith) in
    (second, inr (e, sound.has, primary, refl), has_third e sound.keeps follower second, inr (e, sound.has, either, refl))

-- ---- a row of a table

lead_stays : (w e : Element) → Weighs w e → is_lead e ≡ true → w ≡ e
lead_stays w e (inl same) lead = same
lead_stays w e (inr (none, no_lead, b)) lead = absurd (both_ways (is_lead e) no_lead lead)

follower_stays : (w e : Element) → Weighs w e → is_follower e ≡ true → w ≡ e
follower_stays w e (inl same) follower = same
follower_stays w e (inr (none, b, no_follower)) follower = absurd (both_ways (is_follower e) no_follower follower)

pair_of : (T : TableMap) (wf : IsWf2 T) (s : Strength) (w x e f : Element) → Weighs w e → Weighs x f → is_lead e ≡ true → is_follower f ≡ true →
    (0 < e.w2) × LowSecond T e.w2 × (0 < e.w3) × LowThird T e.w3 → IsReadable (scale_of T wf) s (pair_key s w x)
pair_of T wf s w x e f one two lead follower weights =
    rw (lead_stays w e one lead, follower_stays x f two follower) (pair_readable T wf s e f lead follower weights.0 weights.1 weights.2 weights.3)

abbrev pub AreSound : TableMap → List Element → Type 0
AreSound T es = AllByRecursion (IsSound T) es

pub row_readable : (T : TableMap) (wf : IsWf2 T) (s : Strength) (ws es : List Element) → WeighsRow ws es → AreSound T es → breaks_pairs false es ≡ false →
    AreReadable (scale_of T wf) s (row_keys s ws)
row_readable T wf s [] [] weighs sound pairs = tt
row_readable T wf s [] (e ∷ es) weighs sound pairs = absurd weighs
row_readable T wf s (w ∷ ws) [] weighs sound pairs = absurd weighs
row_readable T wf s (w ∷ []) (e ∷ []) weighs sound pairs =
    let outer = or_false (is_follower e || is_high_variable e) (is_lead e) pairs in
    let inner = or_false (is_follower e) (is_high_variable e) outer.0 in
    weighted_readable T wf s w e sound.0 inner.0 inner.1 outer.1 weighs.0
row_readable T wf s (w ∷ []) (e ∷ f ∷ es) weighs sound pairs = absurd weighs.1
row_readable T wf s (w ∷ x ∷ ws) (e ∷ []) weighs sound pairs = absurd weighs.1
row_readable T wf s (w ∷ x ∷ ws) (e ∷ f ∷ es) weighs sound pairs =
    let outer = or_false (is_follower e || is_high_variable e) (breaks_pairs (is_lead e) (f ∷ es)) pairs in
    let inner = or_false (is_follower e) (is_high_variable e) outer.0 in
    elim (cases_Bool (is_lead e)) [
      | inl lead ↦
          let later : breaks_pairs true (f ∷ es) ≡ false = ap (λ b. breaks_pairs b (f ∷ es)) (sym lead) ∙ outer.1 in
          let parts = or_false (not (is_follower f)) (breaks_pairs false es) later in
          let follower = not_false (is_follower f) parts.0 in
          let weights = leading T e sound.0 lead in
          let here : is_lead w ≡ true = lead_same w e weighs.0 ∙ lead in
          let there : is_follower x ≡ true = follower_same x f weighs.1.0 ∙ follower in
          let paired : AreReadable (scale_of T wf) s (pair_key s w x ∷ row_keys s ws) = (pair_of T wf s w x e f weighs.0 weighs.1.0 lead follower weights, row_readable T wf s ws es weighs.1.1 sound.1.1 parts.1) in
          simp (here, there) paired
      | inr plain ↦
          let later : breaks_pairs false (f ∷ es) ≡ false = ap (λ b. breaks_pairs b (f ∷ es)) (sym plain) ∙ outer.1 in
          let here : is_lead w ≡ false = lead_same w e weighs.0 ∙ plain in
          let first = weighted_readable T wf s w e sound.0 inner.0 inner.1 plain weighs.0 in
          let rest = row_readable T wf s (x ∷ ws) (f ∷ es) weighs.1 sound.1 later in
          simp here (AreReadable-append (scale_of T wf) s (element_keys s w) (row_keys s (x ∷ ws)) first rest)
    ]

-- the two elements of an implicit pair
implicit_weighed : (T : TableMap) (wf : IsWf2 T) (s : Strength) (ws : List Element) (e f : Element) → WeighsRow ws (e ∷ f ∷ []) → is_lead e ≡ true → is_follower f ≡ true →
    e.w2 ≡ 0x20 → e.w3 ≡ 2 → AreReadable (scale_of T wf) s (row_keys s ws)
implicit_weighed T wf s [] e f weighs lead follower second third = absurd weighs
implicit_weighed T wf s (w ∷ []) e f weighs lead follower second third = absurd weighs.1
implicit_weighed T wf s (w ∷ x ∷ y ∷ ws) e f weighs lead follower second third = absurd weighs.1.1
implicit_weighed T wf s (w ∷ x ∷ []) e f weighs lead follower second third =
    let here : is_lead w ≡ true = lead_same w e weighs.0 ∙ lead in
    let there : is_follower x ≡ true = follower_same x f weighs.1.0 ∙ follower in
    let paired : AreReadable (scale_of T wf) s (pair_key s w x ∷ []) = (pair_of T wf s w x e f weighs.0 weighs.1.0 lead follower (omega arith, inl second, omega arith, inl third), tt) in
    simp (here, there) paired

pub implicit_readable : (T : TableMap) (wf : IsWf2 T) (s : Strength) (v : Variable) (after : Bool) (e f : Element) → is_lead e ≡ true → is_follower f ≡ true →
    e.w2 ≡ 0x20 → e.w3 ≡ 2 → AreReadable (scale_of T wf) s (row_keys s (weighted_row v after (e ∷ f ∷ [])))
implicit_readable T wf s v after e f lead follower second third =
    implicit_weighed T wf s (weighted_row v after (e ∷ f ∷ [])) e f (weighs_row v after (e ∷ f ∷ [])) lead follower second third
