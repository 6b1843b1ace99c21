-- The keys of a text under a well-formed table can be read from their levels in one way only.
use Rattle.std.specs.List.{AllByRecursion, slice_get, find, list_any}
use Rattle.std.specs.Int.{is_in_range}
use Rattle.std.specs.Prelude.{Contains}
use Rattle.std.proofs.Common.{◌≡◌, ℕ, zero, suc, ◌/◌, ◌<◌, ◌≤◌, Bool, true, false, not, nat_lt, nat_le, List, [], ◌∷◌, ◌++◌, take, drop, map, flat_map, max, inl, inr, arith, refl, lit<, lit≤, Option, Some, None}
use Rattle.std.proofs.lemmas.Bool.{cases_Bool, and_parts, leb-true, le-leb, not-false}
use Rattle.std.proofs.lemmas.Nat.{div_below}
use Rattle.collation_table.specs.declared.elements.Element.{Element}
use Rattle.collation_table.specs.declared.ranges.ImplicitRange.{ImplicitRange}
use Rattle.collation_table.specs.Table.{TableMap, row_of, is_in, implicit_base, implicit_weights, implicit_weights_in, longest_prefix, is_core_ideograph, is_other_ideograph}
use Rattle.collation_table.specs.WellFormed.{is_lead, is_follower, skips_level, HasElement, IsWellFormed}
use Rattle.nfd_points.specs.declared.points.Point.{Point}
use Rattle.nfd_points.specs.Points.{is_starter}
use Rattle.collation_elements.specs.declared.settings.Strength.{Strength}
use Rattle.collation_elements.specs.declared.settings.Variable.{Variable}
use Rattle.collation_elements.specs.declared.settings.Variable.TheVariants.{NonIgnorable, Shifted}
use Rattle.collation_elements.specs.Units.{code_points, units, units_within, extended, first_unit, joins, Cut}
use Rattle.collation_elements.specs.Elements.{unit_row, weighted_row, weighted_rows, after_row}
use Rattle.collation_elements.specs.Keys.{row_keys, keys}
use Rattle.collation_pattern.proofs.KeyLists.{AreReadable}
use Rattle.collation_pattern.proofs.ReadableRows.{scale_of, IsSound, AreSound, row_readable, weighs_row, or_false, AreReadable-append, implicit_readable}

-- ---- lists

contains_tail : {X : Type 0} → (y : X) (xs : List X) (x : X) → Contains xs x → Contains (y ∷ xs) x
contains_tail y xs x c = (suc c.0, omega (arith, c.1), c.2)

all_contained : {X : Type 0} → (P : X → Type 0) (xs : List X) → ((x : X) → Contains xs x → P x) → AllByRecursion P xs
all_contained P [] h = tt
all_contained P (x ∷ xs) h = (h x (0, omega arith, refl), all_contained P xs (λ y c. h y (contains_tail x xs y c)))

none_any : {X : Type 0} → (test : X → Bool) (xs : List X) → list_any test xs ≡ false → AllByRecursion (λ x. test x ≡ false) xs
none_any test [] h = tt
none_any test (x ∷ xs) h = let parts = or_false (test x) (list_any test xs) h in (parts.0, none_any test xs parts.1)

all_both : {X : Type 0} → (P Q R : X → Type 0) → ((x : X) → P x → Q x → R x) → (xs : List X) → AllByRecursion P xs → AllByRecursion Q xs → AllByRecursion R xs
all_both P Q R join [] p q = tt
all_both P Q R join (x ∷ xs) p q = (join x p.0 q.0, all_both P Q R join xs p.1 q.1)

all-append : {X : Type 0} → (P : X → Type 0) (xs ys : List X) → AllByRecursion P xs → AllByRecursion P ys → AllByRecursion P (xs ++ ys)
all-append P [] ys p q = q
all-append P (x ∷ xs) ys p q = (p.0, all-append P xs ys p.1 q)

all-take : {X : Type 0} → (P : X → Type 0) (n : ℕ) (xs : List X) → AllByRecursion P xs → AllByRecursion P (take n xs)
all-take P zero xs p = tt
all-take P (suc n) [] p = tt
all-take P (suc n) (x ∷ xs) p = (p.0, all-take P n xs p.1)

all-drop : {X : Type 0} → (P : X → Type 0) (n : ℕ) (xs : List X) → AllByRecursion P xs → AllByRecursion P (drop n xs)
all-drop P zero xs p = p
all-drop P (suc n) [] p = tt
all-drop P (suc n) (x ∷ xs) p = all-drop P n xs p.1

-- ---- the points of a unit are among those that it is cut from

abbrev BothAll : (Point → Type 0) → Cut → Type 0
BothAll P cut = AllByRecursion P cut.unit × AllByRecursion P cut.rest

extended_all : (P : Point → Type 0) (T : TableMap) (unit between following : List Point) → AllByRecursion P unit → AllByRecursion P between → AllByRecursion P following →
    BothAll P (extended T unit between following)
extended_all P T unit between [] u b f = (u, b)
extended_all P T unit between (c ∷ following) u b f =
    let stop : BothAll P (record { unit = unit; rest = between ++ c ∷ following }) = (u, all-append P between (c ∷ following) b f) in
    let taken = extended_all P T (unit ++ c ∷ []) between following (all-append P unit (c ∷ []) u (f.0, tt)) b f.1 in
    let left = extended_all P T unit (between ++ c ∷ []) following u (all-append P between (c ∷ []) b (f.0, tt)) f.1 in
    elim (cases_Bool (is_starter c)) [
      | inl s ↦ simp s stop
      | inr s ↦ elim (cases_Bool (joins T unit between c)) [ inl j ↦ simp (s, j) taken | inr j ↦ simp (s, j) left ]
    ]

first_unit_all : (P : Point → Type 0) (T : TableMap) (p : Point) (ps : List Point) → P p → AllByRecursion P ps → BothAll P (first_unit T p ps)
first_unit_all P T p ps h hs =
    let n = max 1 (longest_prefix T (code_points (p ∷ ps))) in
    let all : AllByRecursion P (p ∷ ps) = (h, hs) in
    extended_all P T (take n (p ∷ ps)) [] (drop n (p ∷ ps)) (all-take P n (p ∷ ps) all) tt (all-drop P n (p ∷ ps) all)

units_all : (P : Point → Type 0) (T : TableMap) (fuel ps : List Point) → AllByRecursion P ps → AllByRecursion (AllByRecursion P) (units_within fuel T ps)
units_all P T [] ps h = tt
units_all P T (f ∷ fuel) [] h = tt
units_all P T (f ∷ fuel) (p ∷ ps) h = let cut = first_unit_all P T p ps h.0 h.1 in (cut.0, units_all P T fuel (first_unit T p ps).rest cut.1)

-- ---- the row of a unit

abbrev pub IsCodePoint : Point → Type 0
IsCodePoint p = p.cp < 0x110000

row_sound : (T : TableMap) (wf : IsWellFormed T) (key : List ℕ) (row : List Element) → row_of T key ≡ Some row → AreSound T row
row_sound T wf key row found =
    let sound = wf.rows key row found in
    all_both (HasElement T) (λ e. skips_level e ≡ false) (IsSound T) (λ e has keeps. record { has = has; keeps = keeps }) row
    (all_contained (HasElement T) row (λ e c. (key, row, found, c)))
    (none_any skips_level row sound.wf1)

-- a range that is found is one of the ranges
found_at : (p : ImplicitRange → Bool) (rs : List ImplicitRange) (r : ImplicitRange) → find p rs ≡ Some r → (k : ℕ) × (slice_get rs k ≡ Some r)
found_at p [] r h = cc
found_at p (x ∷ rs) r h =
    elim (cases_Bool (p x)) [
      | inl t ↦ let here = rw t at h in (0, here)
      | inr t ↦ let later = rw t at h in let rest = found_at p rs r later in (suc rest.0, rest.1)
    ]

pub range_base : (T : TableMap) (wf : IsWellFormed T) (p : ImplicitRange → Bool) (r : ImplicitRange) → find p T.ranges ≡ Some r → (0xFB00 ≤ r.base) × (r.base ≤ 0xFB3F)
range_base T wf p r h =
    let at = found_at p T.ranges r h in
    let sound = wf.ranges at.0 r at.1 in
    let last = or_false _ _ sound in
    let overlap = or_false _ _ last.0 in
    let based = or_false (nat_lt r.last r.first) (not (is_in_range 0xFB00 0xFB3F r.base)) overlap.0 in
    let between = and_parts (nat_le 0xFB00 r.base) (nat_le r.base 0xFB3F) (not-false (is_in_range 0xFB00 0xFB3F r.base) based.1) in
    (leb-true 0xFB00 r.base between.0, leb-true r.base 0xFB3F between.1)

pub base_between : (cp : ℕ) → (0xFB40 ≤ implicit_base cp) × (implicit_base cp ≤ 0xFBC0)
base_between cp =
    elim (cases_Bool (is_core_ideograph cp)) [
      | inl c ↦ simp c (lit≤ tt, lit≤ tt)
      | inr c ↦ elim (cases_Bool (is_other_ideograph cp)) [ inl o ↦ simp (c, o) (lit≤ tt, lit≤ tt) | inr o ↦ simp (c, o) (lit≤ tt, lit≤ tt) ]
    ]

-- the first weight of an implicit pair is a lead's, and the second a follower's
weights_between : (T : TableMap) (wf : IsWellFormed T) (cp : ℕ) → cp < 0x110000 → (found : Option ImplicitRange) → find (is_in cp) T.ranges ≡ found →
    let weights = implicit_weights_in T.ranges cp found in (0xFB00 ≤ weights.0) × (weights.0 ≤ 0xFBFF) × (0x8000 ≤ weights.1)
weights_between T wf cp h (Some r) found = let base = range_base T wf (is_in cp) r found in (base.0, omega (arith, base.1), omega arith)
weights_between T wf cp h None found =
    let base = base_between cp in
    let high : cp / 0x8000 < 0x22 = div_below cp 0x8000 0x22 (lit< tt) (omega arith) in
    (omega (arith, base.0), omega (arith, base.1), omega arith)

lead_from : (w : ℕ) → 0xFB00 ≤ w → w ≤ 0xFBFF → is_lead (record { is_variable = false; w1 = w; w2 = 0x20; w3 = 2 }) ≡ true
lead_from w low high = let l = le-leb 0xFB00 w low in let h = le-leb w 0xFBFF high in let f = le-leb 0x8000 w (omega arith) in rw (l, h, f) refl

follower_from : (w : ℕ) → 0x8000 ≤ w → is_follower (record { is_variable = false; w1 = w; w2 = 0; w3 = 0 }) ≡ true
follower_from w low = let l = le-leb 0x8000 w low in rw l refl

unit_readable : (T : TableMap) (wf : IsWellFormed T) (s : Strength) (v : Variable) (after : Bool) (unit : List Point) → AllByRecursion IsCodePoint unit →
    (row : Option (List Element)) → row_of T (code_points unit) ≡ row → AreReadable (scale_of T wf.wf2) s (row_keys s (weighted_row v after (unit_row T unit)))
unit_readable T wf s NonIgnorable after [] h row found = tt
unit_readable T wf s Shifted after [] h row found = tt
unit_readable T wf s v after (p ∷ ps) h (Some row) found =
    let sound = wf.rows (code_points (p ∷ ps)) row found in
    rw found (row_readable T wf.wf2 s (weighted_row v after row) row (weighs_row v after row) (row_sound T wf (code_points (p ∷ ps)) row found) sound.pairs)
unit_readable T wf s v after (p ∷ ps) h None found =
    let between = weights_between T wf p.cp h.0 (find (is_in p.cp) T.ranges) refl in
    let weights = implicit_weights T p.cp in
    rw found (implicit_readable T wf.wf2 s v after (record { is_variable = false; w1 = weights.0; w2 = 0x20; w3 = 2 }) (record { is_variable = false; w1 = weights.1; w2 = 0; w3 = 0 })
    (lead_from weights.0 between.0 between.1) (follower_from weights.1 between.2) refl refl)

-- ---- the rows of a text

units_readable : (T : TableMap) (wf : IsWellFormed T) (s : Strength) (v : Variable) (after : Bool) (us : List (List Point)) → AllByRecursion (AllByRecursion IsCodePoint) us →
    AreReadable (scale_of T wf.wf2) s (flat_map (row_keys s) (weighted_rows v after (map (unit_row T) us)))
units_readable T wf s v after [] h = tt
units_readable T wf s v after (unit ∷ us) h =
    let first = unit_readable T wf s v after unit h.0 (row_of T (code_points unit)) refl in
    let rest = units_readable T wf s v (after_row v after (unit_row T unit)) us h.1 in
    AreReadable-append (scale_of T wf.wf2) s (row_keys s (weighted_row v after (unit_row T unit))) (flat_map (row_keys s) (weighted_rows v (after_row v after (unit_row T unit)) (map (unit_row T) us))) first rest

pub keys_readable : (T : TableMap) (wf : IsWellFormed T) (s : Strength) (v : Variable) (ps : List Point) → AllByRecursion IsCodePoint ps →
    AreReadable (scale_of T wf.wf2) s (keys T s v ps)
keys_readable T wf s v ps h = units_readable T wf s v false (units T ps) (units_all IsCodePoint T ps ps h)
