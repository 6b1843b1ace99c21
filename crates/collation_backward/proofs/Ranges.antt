-- The last of some ranges up to an offset.
use Rattle.std.proofs.Common.{◌≡◌, ◌∙◌, ℕ, ◌+◌, ◌<◌, ◌≤◌, Bool, nat_le, List, [], ◌∷◌, ◌++◌, map, filter, Option, Some, None, refl, sym, ap, subst, arith, inl, inr}
use Rattle.std.proofs.lemmas.Bool.{cases_Bool, cond-true, cond-false, leb-true, leb-false, le-leb, lt-leb}
use Rattle.std.proofs.lemmas.List.{append-nil}
use Rattle.std.proofs.lemmas.List.Elements.{filter-append}
use Rattle.std.specs.Option.{option_map, option_or}
use Rattle.collation_matches.specs.Offsets.{range_moved}
use Rattle.collation_matches.specs.OffsetLaws.{ranges_from}
use Rattle.collation_matches.specs.PartLaws.{ranges_before}
use Rattle.collation_matches.proofs.BridgeLists.{In, Rising, in_filter}
use Rattle.collation_matches.proofs.BridgeRanges.{Before}
use Rattle.collation_matches.proofs.FewRanges.{From}
use Rattle.collation_matches.proofs.PartLemmas.{parted}
use Rattle.collation_anchored.specs.Anchored.{last_of}
use Rattle.collation_backward.specs.Backward.{last_up_to}

-- ---- the last of two lists in a row

pub last-some : (r : ℕ × ℕ) (rs : List (ℕ × ℕ)) → (last : ℕ × ℕ) × (last_of (r ∷ rs) ≡ Some last)
last-some r [] = (r, refl)
last-some r (s ∷ rs) = last-some s rs

last-behind : (xs : List (ℕ × ℕ)) (y : ℕ × ℕ) (ys : List (ℕ × ℕ)) → last_of (xs ++ y ∷ ys) ≡ last_of (y ∷ ys)
last-behind [] y ys = refl
last-behind (x ∷ []) y ys = refl
last-behind (x ∷ z ∷ xs) y ys = last-behind (z ∷ xs) y ys

last-append : (xs ys : List (ℕ × ℕ)) → last_of (xs ++ ys) ≡ option_or (last_of ys) (last_of xs)
last-append xs [] = ap last_of (append-nil xs)
last-append xs (y ∷ ys) =
    let some = last-some y ys in
    last-behind xs y ys ∙ some.1 ∙ sym (ap (λ (o : Option (ℕ × ℕ)). option_or o (last_of xs)) some.1)

pub last-in : (rs : List (ℕ × ℕ)) (range : ℕ × ℕ) → last_of rs ≡ Some range → In rs range
last-in [] range h = cc
last-in (r ∷ []) range h = let same : r ≡ range = cc in inl same
last-in (r ∷ s ∷ rs) range h = inr (last-in (s ∷ rs) range h)

abbrev pub up_to : ℕ → ℕ × ℕ → Bool
up_to at range = nat_le range.1 at

pub up-to-append : (at : ℕ) (xs ys : List (ℕ × ℕ)) → last_up_to at (xs ++ ys) ≡ option_or (last_up_to at ys) (last_up_to at xs)
up-to-append at xs ys = ap last_of (filter-append (up_to at) xs ys) ∙ last-append (filter (up_to at) xs) (filter (up_to at) ys)

pub up-to-in : (at : ℕ) (rs : List (ℕ × ℕ)) (range : ℕ × ℕ) → last_up_to at rs ≡ Some range → In rs range × (range.1 ≤ at)
up-to-in at rs range h = let k = in_filter (up_to at) rs range (last-in (filter (up_to at) rs) range h) in (k.0, leb-true range.1 at k.1)

-- ranges that end behind the offset are none of them
pub none-up-to : (at : ℕ) (rs : List (ℕ × ℕ)) → ((r : ℕ × ℕ) → In rs r → at < r.1) → last_up_to at rs ≡ None
none-up-to at [] late = refl
none-up-to at (r ∷ rs) late =
    ap last_of (cond-false (nat_le r.1 at) (r ∷ filter (up_to at) rs) (filter (up_to at) rs) (lt-leb r.1 at (late r (inl refl))))
    ∙ none-up-to at rs (λ s h. late s (inr h))

pub up-to-one : (at : ℕ) (r : ℕ × ℕ) → r.1 ≤ at → last_up_to at (r ∷ []) ≡ Some r
up-to-one at r le = ap last_of (cond-true (nat_le r.1 at) (r ∷ []) [] (le-leb r.1 at le))

-- one range more
pub up-to-more : (at : ℕ) (rs : List (ℕ × ℕ)) (r : ℕ × ℕ) → r.1 ≤ at → last_up_to at (rs ++ r ∷ []) ≡ Some r
up-to-more at rs r le = up-to-append at rs (r ∷ []) ∙ ap (λ (o : Option (ℕ × ℕ)). option_or o (last_up_to at rs)) (up-to-one at r le)

pub up-to-late : (at : ℕ) (rs : List (ℕ × ℕ)) (r : ℕ × ℕ) → at < r.1 → last_up_to at (rs ++ r ∷ []) ≡ last_up_to at rs
up-to-late at rs r less =
    up-to-append at rs (r ∷ [])
    ∙ ap (λ (o : Option (ℕ × ℕ)). option_or o (last_up_to at rs)) (none-up-to at (r ∷ []) (λ s h. elim h [ inl e ↦ subst (λ (q : ℕ × ℕ). at < q.1) e less | inr never ↦ absurd never ]))

-- ---- offsets counted from elsewhere

last-map : (f : ℕ × ℕ → ℕ × ℕ) (rs : List (ℕ × ℕ)) → last_of (map f rs) ≡ option_map f (last_of rs)
last-map f [] = refl
last-map f (r ∷ []) = refl
last-map f (r ∷ s ∷ rs) = last-map f (s ∷ rs)

filter-moved : (by at : ℕ) (rs : List (ℕ × ℕ)) → filter (up_to (by + at)) (map (range_moved by) rs) ≡ map (range_moved by) (filter (up_to at) rs)
filter-moved by at [] = refl
filter-moved by at (r ∷ rs) =
    let all = map (range_moved by) rs in
    elim (cases_Bool (nat_le r.1 at)) [
      | inl is ↦
          let le = leb-true r.1 at is in
          cond-true (nat_le (by + r.1) (by + at)) (range_moved by r ∷ filter (up_to (by + at)) all) (filter (up_to (by + at)) all) (le-leb (by + r.1) (by + at) (omega (arith, le)))
          ∙ ap (λ (l : List (ℕ × ℕ)). range_moved by r ∷ l) (filter-moved by at rs)
          ∙ ap (map (range_moved by)) (sym (cond-true (nat_le r.1 at) (r ∷ filter (up_to at) rs) (filter (up_to at) rs) is))
      | inr is ↦
          let less = leb-false r.1 at is in
          cond-false (nat_le (by + r.1) (by + at)) (range_moved by r ∷ filter (up_to (by + at)) all) (filter (up_to (by + at)) all) (lt-leb (by + r.1) (by + at) (omega (arith, less)))
          ∙ filter-moved by at rs
          ∙ ap (map (range_moved by)) (sym (cond-false (nat_le r.1 at) (r ∷ filter (up_to at) rs) (filter (up_to at) rs) is))
    ]

pub up-to-moved : (by at : ℕ) (rs : List (ℕ × ℕ)) → last_up_to (by + at) (map (range_moved by) rs) ≡ option_map (range_moved by) (last_up_to at rs)
up-to-moved by at rs = ap last_of (filter-moved by at rs) ∙ last-map (range_moved by) (filter (up_to at) rs)

-- ---- ranges that begin at a place or behind it

pub weaken : {A : Type 0} (R S : A → A → Type 0) (xs : List A) → ((x y : A) → R x y → S x y) → Rising R xs → Rising S xs
weaken R S [] h r = tt
weaken R S (x ∷ xs) h r = (λ y k. h x y (r.0 y k), weaken R S xs h r.1)

pub from-zero : (rs : List (ℕ × ℕ)) → ranges_from 0 rs ≡ rs
from-zero [] = refl
from-zero (r ∷ rs) = cond-true (nat_le 0 r.0) (r ∷ ranges_from 0 rs) (ranges_from 0 rs) (le-leb 0 r.0 (omega arith)) ∙ ap (λ (l : List (ℕ × ℕ)). r ∷ l) (from-zero rs)

-- the last one of these is the last one of all
pub up-to-from : (at place : ℕ) (rs : List (ℕ × ℕ)) (range : ℕ × ℕ) → Rising From rs → last_up_to at (ranges_from place rs) ≡ Some range → last_up_to at rs ≡ Some range
up-to-from at place rs range up h =
    let early = ranges_before place (ranges_from 0 rs) in
    let parts : early ++ ranges_from place rs ≡ rs =
    parted 0 place rs (omega arith) (weaken From Before rs (λ r s less. inl less) up) ∙ from-zero rs in
    ap (last_up_to at) (sym parts)
    ∙ up-to-append at early (ranges_from place rs)
    ∙ ap (λ (o : Option (ℕ × ℕ)). option_or o (last_up_to at early)) h
