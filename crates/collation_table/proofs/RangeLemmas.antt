-- Lemmas on lists of implicit ranges.
use Rattle.std.proofs.Common.{◌≡◌, ℕ, zero, suc, ◌+◌, ◌-◌, ◌<◌, ◌≤◌, Bool, true, false, not, ◌||◌, nat_eq, nat_lt, nat_le, cond, List, [], ◌∷◌, take, map, Some, slice_get, refl, sym, ap, ◌∙◌, arith, eq-eqb, if◌then◌else◌, find, ◌⊎◌, inl, inr}
use Rattle.std.specs.Int.{is_in_range}
use Rattle.std.proofs.lemmas.Bool.{ltb-false, leb-true, eqb-true, cases_lt, and_parts, or_parts}
use Rattle.std.specs.List.{list_any}
use Rattle.collation_table.specs.declared.ranges.ImplicitRange.{ImplicitRange}
use Rattle.collation_table.specs.Table.{first_with_base, greatest, is_in}
use Rattle.collation_table.specs.WellFormed.{breaks_ranges, overlaps, with_base, AreRangesSound}

pub first_with_base-le : (base cp : ℕ) (rs : List ImplicitRange) → first_with_base base cp rs ≤ cp
first_with_base-le base cp [] = omega arith
first_with_base-le base cp (r ∷ rs) = omega (arith, first_with_base-le base cp rs)

pub ruleset smallest_in = (first_with_base-le)

-- ---- the range at a place, and those before it

kept_le : (b : Bool) (r : ImplicitRange) (rs : List ImplicitRange) → greatest (map (λ r. r.last) rs) ≤ greatest (map (λ r. r.last) (cond b (r ∷ rs) rs))
kept_le true r rs = omega arith
kept_le false r rs = omega arith

new_le : (b : Bool) (r : ImplicitRange) (rs : List ImplicitRange) → b ≡ true → r.last ≤ greatest (map (λ r. r.last) (cond b (r ∷ rs) rs))
new_le true r rs e = omega arith
new_le false r rs e = cc

-- each range with the base ends at or before the greatest end of those
with_base-greatest : (base : ℕ) (rs : List ImplicitRange) (k : ℕ) (s : ImplicitRange) → slice_get rs k ≡ Some s → s.base ≡ base → s.last ≤ greatest (map (λ r. r.last) (with_base base rs))
with_base-greatest base [] k s at same = cc
with_base-greatest base (r ∷ rs) zero s at same =
    let r_is : r ≡ s = cc in
    let same_base : r.base ≡ base = cc in
    let same_last : r.last ≡ s.last = cc in
    omega (arith, new_le (nat_eq r.base base) r (with_base base rs) (eq-eqb r.base base same_base))
with_base-greatest base (r ∷ rs) (suc k) s at same =
    omega (arith, with_base-greatest base rs k s at same, kept_le (nat_eq r.base base) r (with_base base rs))

-- and begins at or after the smallest beginning of those
first_with_base-smallest : (base cp : ℕ) (rs : List ImplicitRange) (k : ℕ) (s : ImplicitRange) → slice_get rs k ≡ Some s → s.base ≡ base → first_with_base base cp rs ≤ s.first
first_with_base-smallest base cp [] k s at same = cc
first_with_base-smallest base cp (r ∷ rs) zero s at same =
    let r_is : r ≡ s = cc in
    let same_base : s.base ≡ base = cc in
    let e : (if nat_eq s.base base then s.first else cp) ≡ s.first = ap (λ b. if b then s.first else cp) (eq-eqb s.base base same_base) in
    rw r_is (omega (arith, e))
first_with_base-smallest base cp (r ∷ rs) (suc k) s at same =
    omega (arith, first_with_base-smallest base cp rs k s at same)

-- ---- what the condition on a range says

spread_le : (earlier : List ImplicitRange) (r : ImplicitRange) → breaks_ranges earlier r ≡ false
    → greatest (map (λ s. s.last) (r ∷ with_base r.base earlier)) ≤ first_with_base r.base r.first earlier + 0x7FFF
spread_le earlier r h =
    let lasts = greatest (map (λ s. s.last) (r ∷ with_base r.base earlier)) in
    let first = first_with_base r.base r.first earlier in
    let narrow : nat_lt 0x7FFF (lasts - first) ≡ false =
    (or_parts (nat_lt r.last r.first || not (is_in_range 0xFB00 0xFB3F r.base) || list_any (overlaps r) earlier) (nat_lt 0x7FFF (lasts - first)) h).1 in
    let le : lasts - first ≤ 0x7FFF = ltb-false 0x7FFF (lasts - first) narrow in
    omega (arith, le)

slice_get_take : {X : Type 0} (xs : List X) (k j : ℕ) (x : X) → j < k → slice_get xs j ≡ Some x → slice_get (take k xs) j ≡ Some x
slice_get_take [] k j x lt h = cc
slice_get_take (y ∷ ys) zero j x lt h = absurd (omega arith)
slice_get_take (y ∷ ys) (suc k) zero x lt h = h
slice_get_take (y ∷ ys) (suc k) (suc j) x lt h = slice_get_take ys k j x (omega arith) h

-- ranges with one base lie within what the second weight of a pair can count
pub AreRangesSound-spread : (ranges : List ImplicitRange) (i j : ℕ) (r s : ImplicitRange) → AreRangesSound ranges → slice_get ranges i ≡ Some r → slice_get ranges j ≡ Some s → s.base ≡ r.base → r.last ≤ s.first + 0x7FFF
AreRangesSound-spread ranges i j r s sound at_i at_j same = by (cases_lt j i)
  where
    by : (j < i) ⊎ (i ≤ j) → r.last ≤ s.first + 0x7FFF
    by (inl lt) =
        omega (arith, spread_le (take i ranges) r (sound i r at_i), first_with_base-smallest r.base r.first (take i ranges) j s (slice_get_take ranges i j s lt at_j) same)
    by (inr le) = following (cases_lt i j)
      where
        following : (i < j) ⊎ (j ≤ i) → r.last ≤ s.first + 0x7FFF
        following (inl lt) =
            omega (arith, spread_le (take j ranges) s (sound j s at_j), with_base-greatest s.base (take j ranges) i r (slice_get_take ranges j i r lt at_i) (sym same), first_with_base-le s.base s.first (take j ranges))
        following (inr ge) =
            let same_place : i ≡ j = omega arith in
            let same_range : Some r ≡ Some s = sym at_i ∙ ap (slice_get ranges) same_place ∙ at_j in
            let same_first : r.first ≡ s.first = cc in
            omega (arith, spread_le (take i ranges) r (sound i r at_i), first_with_base-le r.base r.first (take i ranges))

first_with_base-ge : (base cp low : ℕ) (rs : List ImplicitRange) → low ≤ cp → ((k : ℕ) (s : ImplicitRange) → slice_get rs k ≡ Some s → s.base ≡ base → low ≤ s.first) → low ≤ first_with_base base cp rs
first_with_base-ge base cp low [] le all = le
first_with_base-ge base cp low (r ∷ rs) le all =
    let rest = first_with_base-ge base cp low rs le (λ k s. all (suc k) s) in
    let first : low ≤ (if nat_eq r.base base then r.first else cp) = by (nat_eq r.base base) refl in
    omega (arith, rest, first)
  where
    by : (b : Bool) → nat_eq r.base base ≡ b → low ≤ (if b then r.first else cp)
    by true e = all 0 r refl (eqb-true r.base base e)
    by false e = le

find_place : (cp : ℕ) (rs : List ImplicitRange) (r : ImplicitRange) → find (is_in cp) rs ≡ Some r → (k : ℕ) × (slice_get rs k ≡ Some r) × (is_in cp r ≡ true)
find_place cp [] r h = cc
find_place cp (x ∷ xs) r h = by (is_in cp x) refl h (find_place cp xs r)
  where
    by : (b : Bool) → is_in cp x ≡ b → cond b (Some x) (find (is_in cp) xs) ≡ Some r → (find (is_in cp) xs ≡ Some r → (k : ℕ) × (slice_get xs k ≡ Some r) × (is_in cp r ≡ true))
        → (k : ℕ) × (slice_get (x ∷ xs) k ≡ Some r) × (is_in cp r ≡ true)
    by true e f rest = let same : x ≡ r = cc in (0, f, sym (ap (is_in cp) same) ∙ e)
    by false e f rest = let found = rest f in (suc found.0, found.1, found.2)

-- how far a code point is after the first of its base
pub offset_le : (ranges : List ImplicitRange) (cp : ℕ) (r : ImplicitRange) → AreRangesSound ranges → find (is_in cp) ranges ≡ Some r → cp ≤ first_with_base r.base cp ranges + 0x7FFF
offset_le ranges cp r sound found =
    let place = find_place cp ranges r found in
    let inside : cp ≤ r.last = leb-true cp r.last (and_parts (nat_le r.first cp) (nat_le cp r.last) place.2).1 in
    let low : cp - 0x7FFF ≤ first_with_base r.base cp ranges =
    first_with_base-ge r.base cp (cp - 0x7FFF) ranges (omega arith) (λ k s at same. omega (arith, AreRangesSound-spread ranges place.0 k r s sound place.1 at same)) in
    omega (arith, low)
