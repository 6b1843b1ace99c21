-- What the operations on vectors of sixteen bytes hold at each lane.
use Rattle.std.proofs.Common.{◌≡◌, ◌≢◌, ◌∙◌, ◌⊎◌, ℕ, zero, suc, ◌+◌, ◌*◌, ◌/◌, ◌%◌, ◌^◌, ◌<◌, ◌≤◌, min, List, Bool, false, true, not, cond, eqb, ltb, length, slice_index, get_or, map, replicate, refl, sym, ap, ap₂, subst, arith, w8, w64, bit_and, bit_or, bit_xor, Fits, inl, inr}
use Rattle.std.specs.Int.{bit_at, trailing_zeros}
use Rattle.std.specs.Simd.Lanes.{zip2, sel_l, mask_l, Each1}
use Rattle.std.proofs.lemmas.Simd.{length-zip2, get_or-zip2, get_or-replicate, length-sel_l, get_or-sel_l, length-swz_l, get_or-swz_l_below, swz_l, SwzOk, SwzOk-from_below, Each1-from_get_or, Each1-get_or, mask_l-lt, bit_mask_l}
use Rattle.std.proofs.lemmas.List.{length-map, get_or-map, get_or_past}
use Rattle.std.proofs.lemmas.Bool.{cases_Bool, cases_lt, cond-true, cond-false, ltb-true, ltb-false, true≢false, eqb-true}
use Rattle.std.proofs.lemmas.Nat.{and_mask, le_or_l, le_or_r, or_lt}
use Rattle.std.specs.Int.Bits.{and_zero_l}
use Rattle.std.proofs.lemmas.Nat.Bits.{and_pow, bit_at-trailing_zeros, bit_at_or, bit_at_xor, bit_at-lt, bit_at-pow_other, bit_at-zero, same_from_bits}
use Rattle.byte_blocks.specs.Lanes.{HasLanes}
use Rattle.byte_blocks.specs.declared.sets.TheConstants.{COLUMNS}
use Rattle.byte_blocks.specs.Sets.{in_set}

pub lanes-zip2 : (f : ℕ → ℕ → ℕ) (a b : List ℕ) → length a ≡ 16 → length b ≡ 16 → HasLanes (zip2 f a b) (λ k. f (get_or a k 0) (get_or b k 0))
lanes-zip2 f a b p q = record {
  long = length-zip2 f a b (p ∙ sym q) ∙ p;
  each = λ k l. get_or-zip2 f a b k 0 0 0 (omega (arith, p, l)) (omega (arith, q, l));
}

pub lanes-splat : (f : ℕ → ℕ → ℕ) (a : List ℕ) (x : ℕ) → length a ≡ 16 → HasLanes (zip2 f a (replicate 16 x)) (λ k. f (get_or a k 0) x)
lanes-splat f a x p =
    let h = lanes-zip2 f a (replicate 16 x) p refl in
    record { long = h.long; each = λ k l. h.each k l ∙ ap (f (get_or a k 0)) (get_or-replicate 16 k x 0 l) }

-- ---- look-ups

pub look-ok : (js : List ℕ) (f : ℕ → ℕ) → HasLanes js f → ((k : ℕ) → k < 16 → f k < 16) → SwzOk w8 16 16 0 js
look-ok js f h small =
    let long = h.long in
    SwzOk-from_below w8 16 1 16 0 js refl (omega (arith, long)) (Each1-from_get_or (λ j. j < 16) js 0 (λ i l. at i (omega (arith, l, long))))
  where
    at : (i : ℕ) → i < 16 → get_or js i 0 < 16
    at i l = let e = h.each i l in let s = small i l in omega (arith, e, s)

pub look-lanes : (table js : List ℕ) (f : ℕ → ℕ) → HasLanes js f → ((k : ℕ) → k < 16 → f k < 16) → HasLanes (swz_l w8 16 table 0 js) (λ k. get_or table (f k) 0)
look-lanes table js f h small =
    let long = h.long in
    record { long = length-swz_l w8 16 table 0 js ∙ long; each = λ k l. at k l }
  where
    at : (k : ℕ) → k < 16 → get_or (swz_l w8 16 table 0 js) k 0 ≡ get_or table (f k) 0
    at k l =
        let e = h.each k l in
        let s = small k l in
        let long = h.long in
        get_or-swz_l_below w8 16 table 0 js k (omega (arith, l, long)) (omega (arith, e, s)) ∙ ap (λ j. get_or table j 0) (omega (arith, e, l))

pub low-lanes : (v : List ℕ) → length v ≡ 16 → HasLanes (zip2 bit_and v (replicate 16 15)) (λ k. get_or v k 0 % 16)
low-lanes v long = let h = lanes-splat bit_and v 15 long in record { long = h.long; each = λ k l. h.each k l ∙ and_mask (get_or v k 0) 4 }

pub high-lanes : (v : List ℕ) → length v ≡ 16 → HasLanes (zip2 (λ (a b : ℕ). a / 2 ^ b) v (replicate 16 4)) (λ k. get_or v k 0 / 16)
high-lanes v long = lanes-splat (λ (a b : ℕ). a / 2 ^ b) v 4 long

pub high-small : (v : List ℕ) → length v ≡ 16 → Each1 (Fits w8) v → (k : ℕ) → k < 16 → get_or v k 0 / 16 < 16
high-small v long fits k l = let f = (Each1-get_or (Fits w8) v k 0 (omega (arith, long, l)) fits).fits in omega (arith, f)

pub low-small : (v : List ℕ) (k : ℕ) → k < 16 → get_or v k 0 % 16 < 16
low-small v k l = omega arith

-- ---- the lesser of two lanes

least-is : (a b : ℕ) → cond (ltb a b) a b ≡ min a b
least-is a b = elim (cases_Bool (ltb a b)) [
  | inl less ↦ cond-true (ltb a b) a b less ∙ (let l = ltb-true a b less in omega (arith, l))
  | inr not_less ↦ cond-false (ltb a b) a b not_less ∙ (let l = ltb-false a b not_less in omega (arith, l))
]

pub least-lanes : (a b : List ℕ) → length a ≡ 16 → length b ≡ 16 → HasLanes (sel_l (zip2 ltb a b) a b) (λ k. min (get_or a k 0) (get_or b k 0))
least-lanes a b p q =
    let long = length-zip2 ltb a b (p ∙ sym q) ∙ p in
    record {
      long = length-sel_l (zip2 ltb a b) a b (long ∙ sym p) (long ∙ sym q) ∙ long;
      each = λ k l.
          get_or-sel_l (zip2 ltb a b) a b k 0 (omega (arith, long, l)) (omega (arith, p, l)) (omega (arith, q, l))
          ∙ ap (λ t. cond t (get_or a k 0) (get_or b k 0)) (get_or-zip2 ltb a b k 0 0 false (omega (arith, p, l)) (omega (arith, q, l)))
          ∙ least-is (get_or a k 0) (get_or b k 0);
    }

pub min-zero : (a b : ℕ) → min a b ≡ 0 → (a ≡ 0) ⊎ (b ≡ 0)
min-zero zero b h = inl refl
min-zero (suc a) zero h = inr refl
min-zero (suc a) (suc b) h = absurd (omega (arith, h))

-- ---- the first lane that is not 0

not-zero : (n : ℕ) → not (eqb n 0) ≡ false → n ≡ 0
not-zero n h = elim (cases_Bool (eqb n 0)) [
  | inl yes' ↦ eqb-true n 0 yes'
  | inr no' ↦ absurd (true≢false (sym (ap not no') ∙ h))
]

unset : (b : Bool) → cond {A = ℕ} b 1 0 ≡ 0 → b ≡ false
unset false h = refl
unset true h = absurd (omega (arith, h))

pow-below : (n k : ℕ) → k ≡ 16 → n < 2 ^ k → n < 2 ^ 64
pow-below n k same less = let l = subst (λ j. n < 2 ^ j) same less in omega (arith, l)

abbrev pub mask_of : List ℕ → ℕ
mask_of v = mask_l (map (λ x. not (eqb x 0)) v)

pub record IsFirstNonZero (v : List ℕ) (first : ℕ) : Type 0 where
  pub within : first ≤ 16
  pub zeros : (k : ℕ) → k < first → get_or v k 0 ≡ 0
  pub stop : first < 16 → get_or v first 0 ≢ 0

-- the bit of a lane that is 0
unset-lane : (v : List ℕ) (k : ℕ) → k < length v → get_or v k 0 ≡ 0 → bit_at (mask_of v) k ≡ 0
unset-lane v k less none =
    bit_mask_l (map (λ x. not (eqb x 0)) v) k
    ∙ ap (λ b. cond {A = ℕ} b 1 0) (get_or-map (λ x. not (eqb x 0)) v k 0 false less ∙ ap (λ n. not (eqb n 0)) none)

-- the lowest bit of a mask and of one bit behind its lanes
pub first-lane : (v : List ℕ) → length v ≡ 16 → IsFirstNonZero v (trailing_zeros w64 (bit_or (mask_of v) 65536))
first-lane v long =
    let mask = mask_of v in
    let ms = map (λ x. not (eqb x 0)) v in
    let both = bit_or mask 65536 in
    let first = trailing_zeros w64 both in
    let small : mask < 2 ^ 64 = let l = mask_l-lt ms in let e = length-map v (λ x. not (eqb x 0)) in pow-below mask (length ms) (e ∙ long) l in
    let some = le_or_r mask 65536 in
    let h = bit_at-trailing_zeros w64 both (omega (arith, some)) (or_lt 64 mask 65536 small (omega arith)) in
    let behind : bit_at both 16 ≡ 1 = bit_at_or mask 65536 16 ∙ (let one = bit_at-lt mask 16 in omega (arith, one)) in
    let within : first ≤ 16 = elim (cases_lt 16 first) [
      | inl past ↦ (let none = h.2 16 past in omega (arith, none, behind))
      | inr not_past ↦ omega (arith, not_past)
    ] in
    record {
      within = within;
      zeros = λ k less.
          let none = h.2 k less in
          let here : bit_at mask k ≡ 0 = (let e = bit_at_or mask 65536 k in omega (arith, none, e)) in
          not-zero (get_or v k 0) (sym (get_or-map (λ x. not (eqb x 0)) v k 0 false (omega (arith, less, within, long))) ∙ unset (get_or ms k false) (sym (bit_mask_l ms k) ∙ here));
      stop = λ low none.
          let e = bit_at_or mask 65536 first in
          let other = bit_at-pow_other 16 first (λ same. omega (arith, same, low)) in
          let here = unset-lane v first (omega (arith, low, long)) none in
          omega (arith, h.1, e, other, here);
    }

-- no bit is set where all lanes are 0
pub mask-none : (v : List ℕ) → length v ≡ 16 → ((k : ℕ) → k < 16 → get_or v k 0 ≡ 0) → mask_of v ≡ 0
mask-none v long none = same_from_bits (mask_of v) 0 (λ i. at i ∙ sym (bit_at-zero i))
  where
    ms : List Bool
    ms = map (λ x. not (eqb x 0)) v

    at : (i : ℕ) → bit_at (mask_of v) i ≡ 0
    at i = elim (cases_lt i 16) [
      | inl less ↦ unset-lane v i (omega (arith, less, long)) (none i less)
      | inr past ↦
          let e = length-map v (λ x. not (eqb x 0)) in
          bit_mask_l ms i ∙ ap (λ b. cond {A = ℕ} b 1 0) (get_or_past ms i false (omega (arith, e, long, past)))
    ]

pub or-left : (a b : ℕ) → bit_or a b ≡ 0 → a ≡ 0
or-left a b h = let l = le_or_l a b in omega (arith, l, h)

pub or-right : (a b : ℕ) → bit_or a b ≡ 0 → b ≡ 0
or-right a b h = let l = le_or_r a b in omega (arith, l, h)

pub xor-same : (a b : ℕ) → bit_xor a b ≡ 0 → a ≡ b
xor-same a b h = same_from_bits a b (λ i. at i)
  where
    at : (i : ℕ) → bit_at a i ≡ bit_at b i
    at i =
        let e = bit_at_xor a b i in
        let none : bit_at (bit_xor a b) i ≡ 0 = ap (λ n. bit_at n i) h ∙ bit_at-zero i in
        let low = bit_at-lt a i in
        let less = bit_at-lt b i in omega (arith, e, none, low, less)

pub xor-self : (a : ℕ) → bit_xor a a ≡ 0
xor-self a = same_from_bits (bit_xor a a) 0 (λ i. at i)
  where
    at : (i : ℕ) → bit_at (bit_xor a a) i ≡ bit_at 0 i
    at i =
        let e = bit_at_xor a a i in
        let zero_here = bit_at-zero i in omega (arith, e, zero_here)

pub or-none : {a b : ℕ} → a ≡ 0 → b ≡ 0 → bit_or a b ≡ 0
or-none p q = ap₂ bit_or p q

pub below-none : (n : ℕ) → n < 128 → bit_and n 128 ≡ 0
below-none n less = let e : bit_and n 128 ≡ (n / 128 % 2) * 128 = and_pow n 7 in omega (arith, e, less)

pub below-high : (n : ℕ) → n < 256 → bit_and n 128 ≡ 0 → n < 128
below-high n small h = let e : bit_and n 128 ≡ (n / 128 % 2) * 128 = and_pow n 7 in omega (arith, e, h, small)

-- ---- sets

-- a lane of a look-up in a set
pub member : (set v columns members : List ℕ) → HasLanes columns (λ k. get_or COLUMNS (get_or v k 0 / 16) 0) → HasLanes members (λ k. bit_and (get_or set (get_or v k 0 % 16) 0) (get_or columns k 0)) → (k : ℕ) → k < 16 →
    get_or members k 0 ≡ in_set set (get_or v k 0)
member set v columns members high looked k less = looked.each k less ∙ ap (bit_and (get_or set (get_or v k 0 % 16) 0)) (high.each k less)

-- no byte is in a set whose lanes are all 0
pub in-none : (set lanes : List ℕ) → HasLanes lanes (λ k. slice_index set (0 + k)) → ((k : ℕ) → k < 16 → slice_index lanes k ≡ 0) → (byte : ℕ) → in_set set byte ≡ 0
in-none set lanes has nothing byte = ap (λ (x : ℕ). bit_and x (slice_index COLUMNS (byte / 16))) at ∙ and_zero_l (slice_index COLUMNS (byte / 16))
  where
    at : slice_index set (byte % 16) ≡ 0
    at = ap (λ (j : ℕ). slice_index set j) (omega arith) ∙ sym (has.each (byte % 16) (omega arith)) ∙ nothing (byte % 16) (omega arith)
