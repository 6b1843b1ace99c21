-- The ranges and the fault of a part, as they are handed on.
use Rattle.std.proofs.Common.{◌≡◌, ℕ, ◌+◌, ◌-◌, ◌^◌, ◌<◌, ◌≤◌, min, nat_lt, nat_le, List, [], ◌∷◌, ◌++◌, map, Option, Some, None, refl, sym, ap, ap₂, ◌∙◌, arith, inl, inr, subst}
use Rattle.std.proofs.lemmas.Bool.{cases_Bool, cond-true, cond-false, le-leb, leb-true, leb-false, lt-leb, lt-ltb, le-ltb, ltb-true, ltb-false}
use Rattle.std.proofs.lemmas.List.{map-append, append-nil}
use Rattle.std.specs.List.{FoldsTo}
use Rattle.collation_matches.specs.declared.faults.TextFault.{TextFault}
use Rattle.collation_matches.specs.Offsets.{range_moved, fault_moved, text_fault_moved}
use Rattle.collation_matches.specs.PartLaws.{ranges_before}
use Rattle.collation_matches.proofs.BridgeLists.{In}
use Rattle.collation_parts.specs.Handing.{range_on, handed_on}
use Rattle.collation_parts.specs.Parts.{fault_by}

-- ---- ranges before an offset

pub before-kept : (to : ℕ) (r : ℕ × ℕ) (rs : List (ℕ × ℕ)) → r.0 < to → ranges_before to (r ∷ rs) ≡ r ∷ ranges_before to rs
before-kept to r rs less = cond-true (nat_lt r.0 to) (r ∷ ranges_before to rs) (ranges_before to rs) (lt-ltb r.0 to less)

pub before-left_out : (to : ℕ) (r : ℕ × ℕ) (rs : List (ℕ × ℕ)) → to ≤ r.0 → ranges_before to (r ∷ rs) ≡ ranges_before to rs
before-left_out to r rs more = cond-false (nat_lt r.0 to) (r ∷ ranges_before to rs) (ranges_before to rs) (le-ltb r.0 to more)

pub before-append : (to : ℕ) (xs ys : List (ℕ × ℕ)) → ranges_before to (xs ++ ys) ≡ ranges_before to xs ++ ranges_before to ys
before-append to [] ys = refl
before-append to (r ∷ xs) ys =
    elim (cases_Bool (nat_lt r.0 to)) [
      | inl less ↦
          let at = ltb-true r.0 to less in
          before-kept to r (xs ++ ys) at ∙ ap (λ (rs : List (ℕ × ℕ)). r ∷ rs) (before-append to xs ys)
          ∙ ap (λ (rs : List (ℕ × ℕ)). rs ++ ranges_before to ys) (sym (before-kept to r xs at))
      | inr more ↦
          let at = ltb-false r.0 to more in
          before-left_out to r (xs ++ ys) at ∙ before-append to xs ys
          ∙ ap (λ (rs : List (ℕ × ℕ)). rs ++ ranges_before to ys) (sym (before-left_out to r xs at))
    ]

pub before-none : (to : ℕ) (rs : List (ℕ × ℕ)) → ((r : ℕ × ℕ) → In rs r → to ≤ r.0) → ranges_before to rs ≡ []
before-none to [] late = refl
before-none to (r ∷ rs) late = before-left_out to r rs (late r (inl refl)) ∙ before-none to rs (λ q h. late q (inr h))

pub before-all : (to : ℕ) (rs : List (ℕ × ℕ)) → ((r : ℕ × ℕ) → In rs r → r.0 < to) → ranges_before to rs ≡ rs
before-all to [] early = refl
before-all to (r ∷ rs) early = before-kept to r rs (early r (inl refl)) ∙ ap (λ (qs : List (ℕ × ℕ)). r ∷ qs) (before-all to rs (λ q h. early q (inr h)))

-- ---- what is handed on

pub handed_on-append : (by len : ℕ) (xs ys : List (ℕ × ℕ)) → handed_on by len (xs ++ ys) ≡ handed_on by len xs ++ handed_on by len ys
handed_on-append by len xs ys = ap (map (range_on by)) (before-append len xs ys) ∙ map-append (range_on by) (ranges_before len xs) (ranges_before len ys)

-- where those behind others begin behind the part
pub handed_on-late : (by len : ℕ) (xs ys : List (ℕ × ℕ)) → ((r : ℕ × ℕ) → In ys r → len ≤ r.0) → handed_on by len (xs ++ ys) ≡ handed_on by len xs
handed_on-late by len xs ys late =
    handed_on-append by len xs ys
    ∙ ap (λ (rs : List (ℕ × ℕ)). handed_on by len xs ++ map (range_on by) rs) (before-none len ys late)
    ∙ append-nil (handed_on by len xs)

pub handed_on-one : (by len : ℕ) (r : ℕ × ℕ) → r.0 < len → handed_on by len (r ∷ []) ≡ range_on by r ∷ []
handed_on-one by len r less = ap (map (range_on by)) (before-kept len r [] less)

pub handed_on-not : (by len : ℕ) (r : ℕ × ℕ) → len ≤ r.0 → handed_on by len (r ∷ []) ≡ []
handed_on-not by len r more = ap (map (range_on by)) (before-left_out len r [] more)

-- Counted from the beginning of the text, these are the ranges of the rest that begin before the end of the part.
pub handed_on-moved : (from len to end : ℕ) (rs : List (ℕ × ℕ)) → from + len ≡ to → from + end < 2 ^ 64 → ((r : ℕ × ℕ) → In rs r → (r.0 ≤ r.1) × (r.1 ≤ end)) →
    handed_on from len rs ≡ ranges_before to (map (range_moved from) rs)
handed_on-moved from len to end [] sum few within = refl
handed_on-moved from len to end (r ∷ rs) sum few within =
    let here = within r (inl refl) in
    let rest = handed_on-moved from len to end rs sum few (λ q h. within q (inr h)) in
    let one : range_on from r ≡ range_moved from r =
    ap₂ (λ (a b : ℕ). (a, b)) (counted r.0 (omega (arith, here.0, here.1, few))) (counted r.1 (omega (arith, here.1, few))) in
    elim (cases_Bool (nat_lt r.0 len)) [
      | inl less ↦
          let at = ltb-true r.0 len less in
          ap (map (range_on from)) (before-kept len r rs at)
          ∙ ap₂ (λ (q : ℕ × ℕ) (qs : List (ℕ × ℕ)). q ∷ qs) one rest
          ∙ sym (before-kept to (range_moved from r) (map (range_moved from) rs) (omega (arith, at, sum)))
      | inr more ↦
          let at = ltb-false r.0 len more in
          ap (map (range_on from)) (before-left_out len r rs at)
          ∙ rest
          ∙ sym (before-left_out to (range_moved from r) (map (range_moved from) rs) (omega (arith, at, sum)))
    ]
  where
    counted : (n : ℕ) → from + n < 2 ^ 64 → min (from + n) (2 ^ 64 - 1) ≡ from + n
    counted n less = omega (arith, less)

-- a part that ends before it begins has no range
pub none-moved : (from to : ℕ) (rs : List (ℕ × ℕ)) → to < from → ranges_before to (map (range_moved from) rs) ≡ []
none-moved from to [] less = refl
none-moved from to (r ∷ rs) less = before-left_out to (range_moved from r) (map (range_moved from) rs) (omega (arith, less)) ∙ none-moved from to rs less

-- ---- the fault of a part

pub fault_by-here : (to : ℕ) (f : TextFault) → f.offset ≤ to → fault_by to (Some f) ≡ Some f
fault_by-here to f le = cond-true (nat_le f.offset to) (Some f) None (le-leb f.offset to le)

pub fault_by-later : (to : ℕ) (f : TextFault) → to < f.offset → fault_by to (Some f) ≡ None
fault_by-later to f less = cond-false (nat_le f.offset to) (Some f) None (lt-leb f.offset to less)

pub fault_by-none : (to : ℕ) → fault_by to None ≡ None
fault_by-none to = refl

-- counted from the beginning of the text
pub fault_by-moved : (from len to : ℕ) (at : Option TextFault) → from + len ≡ to → fault_moved from (fault_by len at) ≡ fault_by to (fault_moved from at)
fault_by-moved from len to None sum = refl
fault_by-moved from len to (Some f) sum =
    elim (cases_Bool (nat_le f.offset len)) [
      | inl here ↦
          let le = leb-true f.offset len here in
          ap (fault_moved from) (fault_by-here len f le) ∙ sym (fault_by-here to (text_fault_moved from f) (omega (arith, le, sum)))
      | inr later ↦
          let less = leb-false f.offset len later in
          ap (fault_moved from) (fault_by-later len f less) ∙ sym (fault_by-later to (text_fault_moved from f) (omega (arith, less, sum)))
    ]

pub no-fault-moved : (from to : ℕ) (at : Option TextFault) → to < from → fault_by to (fault_moved from at) ≡ None
no-fault-moved from to None less = refl
no-fault-moved from to (Some f) less = fault_by-later to (text_fault_moved from f) (omega (arith, less))

-- a fault behind the part is none of it
pub no-fault-by : (len : ℕ) (at : Option TextFault) → ((f : TextFault) → at ≡ Some f → len < f.offset) → fault_by len at ≡ None
no-fault-by len None behind = refl
no-fault-by len (Some f) behind = fault_by-later len f (behind f refl)

-- ---- calls one after the other

pub folds-on : {P A : Type 0} (R : P → A → P → Type 0) (p : P) (xs : List A) (q : P) (ys : List A) (r : P) → FoldsTo R p xs q → FoldsTo R q ys r → FoldsTo R p (xs ++ ys) r
folds-on R p [] q ys r first then = subst (λ t. FoldsTo R t ys r) (sym first) then
folds-on R p (x ∷ xs) q ys r first then = (first.0, first.1, folds-on R first.0 xs q ys r first.2 then)
