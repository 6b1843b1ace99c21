-- The members of all ranges between some offsets, and of those that are minimal; both rise by start, then by end.
use Rattle.std.proofs.Common.{◌≡◌, ℕ, ◌<◌, ◌≤◌, ◌⊎◌, Bool, true, false, ◌&&◌, ◌==◌, not, nat_le, List, map, filter, refl, sym, ap, ◌∙◌, subst, arith, inl, inr, le-leb}
use Rattle.std.proofs.lemmas.Bool.{leb-true, and_parts, and_from, not-true, not_from_false, eqb-true, eq-eqb, false_from_ne_true}
use Rattle.std.specs.List.{list_any}
use Rattle.collation_matches.specs.Matches.{ranges_among, is_within, minimal}
use Rattle.collation_matches.proofs.BridgeLists.{In, Rising, in_filter, filter_in, in_map, map_in, in_flat_map, flat_map_in, rising_flat_map, rising_map, rising_filter, any_in, in_any}

abbrev pub Below : ℕ → ℕ → Type 0
Below a b = a < b

-- by start, then by end
abbrev pub Before : ℕ × ℕ → ℕ × ℕ → Type 0
Before r s = (r.0 < s.0) ⊎ ((r.0 ≡ s.0) × (r.1 < s.1))

pub Before-asym : (r s : ℕ × ℕ) → Before r s → Before s r → ⊥
Before-asym r s h k = omega arith

abbrev from_start : List ℕ → ℕ → List (ℕ × ℕ)
from_start bs start = map (λ end. (start, end)) (filter (nat_le start) bs)

pub in_ranges : (bs : List ℕ) (r : ℕ × ℕ) → In (ranges_among bs) r → In bs r.0 × In bs r.1 × (r.0 ≤ r.1)
in_ranges bs r h =
    let m = in_flat_map (from_start bs) bs r h in
    let pair : ℕ → ℕ × ℕ = λ end. (m.0, end) in
    let n = in_map pair (filter (nat_le m.0) bs) r m.2 in
    let k = in_filter (nat_le m.0) bs n.0 n.1 in
    subst (λ (q : ℕ × ℕ). In bs q.0 × In bs q.1 × (q.0 ≤ q.1)) n.2 (m.1, k.0, leb-true m.0 n.0 k.1)

pub ranges_in : (bs : List ℕ) (start end : ℕ) → In bs start → In bs end → start ≤ end → In (ranges_among bs) (start, end)
ranges_in bs start end hs he h =
    let pair : ℕ → ℕ × ℕ = λ e. (start, e) in
    flat_map_in (from_start bs) bs start (start, end) hs
    (map_in pair (filter (nat_le start) bs) end (filter_in (nat_le start) bs end he (le-leb start end h)))

pub rising_ranges : (bs : List ℕ) → Rising Below bs → Rising Before (ranges_among bs)
rising_ranges bs r =
    rising_flat_map Below Before (from_start bs) bs
    (λ start. rising_map Below Before (λ end. (start, end)) (filter (nat_le start) bs) (λ x y h. inr (refl, h)) (rising_filter Below (nat_le start) bs r))
    (λ x y u v h hu hv.
    let pair_x : ℕ → ℕ × ℕ = λ e. (x, e) in
    let pair_y : ℕ → ℕ × ℕ = λ e. (y, e) in
    let m = in_map pair_x (filter (nat_le x) bs) u hu in
    let n = in_map pair_y (filter (nat_le y) bs) v hv in
    let ex : x ≡ u.0 = ap (λ (q : ℕ × ℕ). q.0) m.2 in
    let ey : y ≡ v.0 = ap (λ (q : ℕ × ℕ). q.0) n.2 in
    inl (omega arith))
    r

pub is_within-true : (outer inner : ℕ × ℕ) → is_within outer inner ≡ true → (outer.0 ≤ inner.0) × (inner.1 ≤ outer.1) × (((inner.0 ≡ outer.0) × (inner.1 ≡ outer.1)) → ⊥)
is_within-true outer inner h =
    let both = and_parts (nat_le outer.0 inner.0 && nat_le inner.1 outer.1) (not (inner.0 == outer.0 && inner.1 == outer.1)) h in
    let ends = and_parts (nat_le outer.0 inner.0) (nat_le inner.1 outer.1) both.0 in
    let differ = not-true (inner.0 == outer.0 && inner.1 == outer.1) both.1 in (
      leb-true outer.0 inner.0 ends.0,
      leb-true inner.1 outer.1 ends.1,
      λ e. let same = and_from (inner.0 == outer.0) (inner.1 == outer.1) (eq-eqb inner.0 outer.0 e.0) (eq-eqb inner.1 outer.1 e.1) in
          let clash : true ≡ false = sym same ∙ differ in cc,
    )

pub is_within_from : (outer inner : ℕ × ℕ) → outer.0 ≤ inner.0 → inner.1 ≤ outer.1 → (((inner.0 ≡ outer.0) × (inner.1 ≡ outer.1)) → ⊥) → is_within outer inner ≡ true
is_within_from outer inner a b differ =
    and_from (nat_le outer.0 inner.0 && nat_le inner.1 outer.1) (not (inner.0 == outer.0 && inner.1 == outer.1))
    (and_from (nat_le outer.0 inner.0) (nat_le inner.1 outer.1) (le-leb outer.0 inner.0 a) (le-leb inner.1 outer.1 b))
    (not_from_false (inner.0 == outer.0 && inner.1 == outer.1)
    (false_from_ne_true (inner.0 == outer.0 && inner.1 == outer.1)
    (λ h. let parts = and_parts (inner.0 == outer.0) (inner.1 == outer.1) h in
    differ (eqb-true inner.0 outer.0 parts.0, eqb-true inner.1 outer.1 parts.1))))

abbrev alone : List (ℕ × ℕ) → ℕ × ℕ → Bool
alone ranges range = not (list_any (is_within range) ranges)

-- a minimal range, and that no other of the ranges lies within it
pub in_minimal : (ranges : List (ℕ × ℕ)) (r : ℕ × ℕ) → In (minimal ranges) r → In ranges r × ((s : ℕ × ℕ) → In ranges s → is_within r s ≡ true → ⊥)
in_minimal ranges r h =
    let k = in_filter (alone ranges) ranges r h in
    let none = not-true (list_any (is_within r) ranges) k.1 in
    (k.0, λ s hs w. let clash : true ≡ false = sym (in_any (is_within r) ranges s hs w) ∙ none in cc)

pub minimal_in : (ranges : List (ℕ × ℕ)) (r : ℕ × ℕ) → In ranges r → ((s : ℕ × ℕ) → In ranges s → is_within r s ≡ true → ⊥) → In (minimal ranges) r
minimal_in ranges r h none =
    filter_in (alone ranges) ranges r h
    (not_from_false (list_any (is_within r) ranges)
    (false_from_ne_true (list_any (is_within r) ranges)
    (λ t. let m = any_in (is_within r) ranges t in none m.0 m.1 m.2)))

pub rising_minimal : (ranges : List (ℕ × ℕ)) → Rising Before ranges → Rising Before (minimal ranges)
rising_minimal ranges r = rising_filter Before (alone ranges) ranges r
