-- Points read from a state, one by one.
use Rattle.std.proofs.Common.{◌≡◌, ℕ, suc, ◌+◌, ◌-◌, ◌≤◌, ◌<◌, ◌≢◌, ◌&&◌, ◌==◌, nat_lt, not, List, [], ◌∷◌, length, take, drop, Some, None, slice_get, slice_index_or, true, false, refl, ap, sym, ◌∙◌, subst, arith}
use Rattle.std.proofs.lemmas.Bool.{and_parts, ne_eqb}
use Rattle.std.proofs.lemmas.List.{take_all, drop_all, drop_more}
use lib.Utf8.{scalar}
use Rattle.unicode_normalization.specs.Lookups.{canonical_combining_class}
use Rattle.unicode_normalization.specs.Order.{is_nonstarter}
use Rattle.unicode_normalization.specs.StreamSafe.{has_short_runs}
use Rattle.collation_states.specs.StateTests.{decomposed, is_flag, are_points, points_in}
use Rattle.nfd_points.specs.declared.limits.TheConstants.{MOST_WAITING}
use Rattle.nfd_points.specs.declared.points.Point.{Point}
use Rattle.nfd_points.specs.Points.{is_starter, is_in_order}
use Rattle.nfd_points.specs.Reordering.{IsSoundPoint, IsHeld, code_points, is_closed}
use Rattle.nfd_points.proofs.RunLemmas.{short-nil, short-starter, short-longer, short-too_long}

-- ---- the last point

closed-from : (x : Point) (xs : List Point) (p : Point) → slice_get (x ∷ xs) (length xs) ≡ Some p → is_closed (x ∷ xs) ≡ is_starter p
unfolding is_closed
closed-from x [] p h = let e : x ≡ p = cc in ap is_starter e
closed-from x (y ∷ ys) p h = closed-from y ys p h

pub closed-last : (ps : List Point) (p : Point) → slice_get ps (length ps - 1) ≡ Some p → is_closed ps ≡ is_starter p
closed-last [] p h = cc
closed-last (x ∷ xs) p h =
    let e : length (x ∷ xs) - 1 ≡ length xs = omega arith in
    closed-from x xs p (ap (slice_get (x ∷ xs)) (sym e) ∙ h)

some-last : (x : Point) (xs : List Point) → slice_get (x ∷ xs) (length xs) ≡ None → x ∷ xs ≡ []
some-last x [] h = cc
some-last x (y ∷ ys) h = let no : y ∷ ys ≡ [] = some-last y ys h in cc

pub closed-empty : (ps : List Point) → ps ≡ [] → is_closed ps ≡ true
unfolding is_closed
closed-empty ps e = ap is_closed e

pub closed-none : (ps : List Point) → slice_get ps (length ps - 1) ≡ None → is_closed ps ≡ true
closed-none [] h = closed-empty [] refl
closed-none (x ∷ xs) h =
    let e : length (x ∷ xs) - 1 ≡ length xs = omega arith in
    closed-empty (x ∷ xs) (some-last x xs (ap (slice_get (x ∷ xs)) (sym e) ∙ h))

-- ---- points of records

pub points-next : (words : List ℕ) (p : Point) → 4 ≤ length words →
    p ≡ record { cp = decomposed (slice_index_or words 0 0); ccc = canonical_combining_class (decomposed (slice_index_or words 0 0)); offset = slice_index_or words 1 0; first = slice_index_or words 2 0 == 1 } →
    points_in words ≡ p ∷ points_in (take (length words - 4) (drop 4 words))
points-next [] p len e = let no : ⊥ = omega arith in elim no [ ]
points-next (a ∷ []) p len e = let no : ⊥ = omega arith in elim no [ ]
points-next (a ∷ b ∷ []) p len e = let no : ⊥ = omega arith in elim no [ ]
points-next (a ∷ b ∷ c ∷ []) p len e = let no : ⊥ = omega arith in elim no [ ]
points-next (a ∷ b ∷ c ∷ d ∷ later) p len e =
    let rest : take (suc (suc (suc (suc (length later)))) - 4) later ≡ later = take_all (suc (suc (suc (suc (length later)))) - 4) later (omega arith) in
    ap (λ q. q ∷ points_in later) (sym e) ∙ ap (λ l. p ∷ points_in l) (sym rest)

pub right-next : (end : ℕ) (words : List ℕ) → 4 ≤ length words →
    (scalar (slice_index_or words 0 0) && (nat_lt (slice_index_or words 1 0) end && (is_flag (slice_index_or words 2 0) && slice_index_or words 3 0 == 0))) ≡ true →
    are_points end words ≡ are_points end (take (length words - 4) (drop 4 words))
right-next end [] len e = let no : ⊥ = omega arith in elim no [ ]
right-next end (a ∷ []) len e = let no : ⊥ = omega arith in elim no [ ]
right-next end (a ∷ b ∷ []) len e = let no : ⊥ = omega arith in elim no [ ]
right-next end (a ∷ b ∷ c ∷ []) len e = let no : ⊥ = omega arith in elim no [ ]
right-next end (a ∷ b ∷ c ∷ d ∷ later) len e =
    let rest : take (suc (suc (suc (suc (length later)))) - 4) later ≡ later = take_all (suc (suc (suc (suc (length later)))) - 4) later (omega arith) in
    let one = and_parts (scalar a) (nat_lt b end && (is_flag c && d == 0)) e in
    let two = and_parts (nat_lt b end) (is_flag c && d == 0) one.1 in
    let three = and_parts (is_flag c) (d == 0) two.1 in
    let w = one.0 in let x = two.0 in let y = three.0 in let z = three.1 in
    let here : are_points end (a ∷ b ∷ c ∷ d ∷ later) ≡ are_points end later = rw (w, x, y, z) refl in
    here ∙ ap (are_points end) (sym rest)

-- ---- runs

abbrev pub no_point : Point
no_point = record { cp = 0; ccc = 0; offset = 0; first = false }

module _ (ps : List Point) (i : ℕ) (p : Point) (here : i < length ps) (is : slice_index_or ps i no_point ≡ p) (sound : IsSoundPoint p) where
  at-point : (run : ℕ) → has_short_runs run (code_points (drop i ps)) ≡ has_short_runs run (p.cp ∷ code_points (drop (i + 1) ps))
  at-point run = ap (λ l. has_short_runs run (code_points l)) (drop_more ps i no_point here ∙ ap (λ q. q ∷ drop (i + 1) ps) is)

  starter : p.ccc ≡ 0 → is_nonstarter p.cp ≡ false
  starter h = ap (λ (n : ℕ). not (n == 0)) (sym sound.class ∙ h)

  mark : p.ccc ≢ 0 → is_nonstarter p.cp ≡ true
  mark h = ap (λ (n : ℕ). not (n == 0)) (sym sound.class) ∙ ap not (ne_eqb p.ccc 0 h)

  pub after-starter : (run : ℕ) → p.ccc ≡ 0 → has_short_runs run (code_points (drop i ps)) ≡ has_short_runs 0 (code_points (drop (i + 1) ps))
  after-starter run h = at-point run ∙ short-starter run p.cp (code_points (drop (i + 1) ps)) (starter h)

  pub after-mark : (run : ℕ) → p.ccc ≢ 0 → run < MOST_WAITING → has_short_runs run (code_points (drop i ps)) ≡ has_short_runs (run + 1) (code_points (drop (i + 1) ps))
  after-mark run h short = at-point run ∙ short-longer run p.cp (code_points (drop (i + 1) ps)) (mark h) short

  pub after-too-many : (run : ℕ) → p.ccc ≢ 0 → MOST_WAITING ≤ run → has_short_runs run (code_points (drop i ps)) ≡ false
  after-too-many run h long = at-point run ∙ short-too_long run p.cp (code_points (drop (i + 1) ps)) (mark h) long

pub after-all : (ps : List Point) (i run : ℕ) → length ps ≤ i → has_short_runs run (code_points (drop i ps)) ≡ true
after-all ps i run h = ap (λ l. has_short_runs run (code_points l)) (drop_all i ps h) ∙ short-nil run

-- ---- no points

pub none-held : (ps : List Point) → ps ≡ [] → IsHeld ps
unfolding is_in_order
none-held ps none = let empty : IsHeld [] = record { non_starters = refl; in_order = refl; few = omega arith; sound = λ i p below. let no : ⊥ = omega (arith, below) in elim no [ ] } in subst (λ (l : List Point). IsHeld l) (sym none) empty

pub none-short : (ps : List Point) → ps ≡ [] → has_short_runs 0 (code_points ps) ≡ true
none-short ps none = ap (λ (l : List Point). has_short_runs 0 (code_points l)) none ∙ short-nil 0
