-- Runs of non-starters and faults of two parts of a text.
use Rattle.std.proofs.Common.{◌≡◌, ℕ, ◌+◌, ◌<◌, ◌≤◌, ◌⊎◌, Bool, true, false, ◌&&◌, nat_lt, List, [], ◌∷◌, ◌++◌, length, flat_map, Option, Some, None, refl, sym, ap, ap₂, ◌∙◌, arith, inl, inr, le-ltb, lt-ltb, ltb-true, ltb-false}
use Rattle.std.proofs.lemmas.Bool.{cond-true, cond-false, cases_Bool, and_parts, and_left}
use Rattle.std.proofs.Math.Bool.{and_assoc}
use Rattle.std.specs.Char.{len_utf8}
use Rattle.unicode_normalization.specs.Order.{is_nonstarter}
use Rattle.unicode_normalization.specs.StreamSafe.{has_short_runs}
use Rattle.nfd_points.specs.declared.limits.TheConstants.{MOST_WAITING}
use Rattle.nfd_points.specs.Points.{decomposition, byte_len}
use Rattle.nfd_points.specs.PointFaults.{run_after, fault_of_code_point, fault_from, part_fault}
use Rattle.nfd_points.proofs.DecompositionLemmas.{length-decomposition}
use Rattle.nfd_points.proofs.PointsLemmas.{byte_len-cons, byte_len-nil}

-- ---- runs

pub run_after-mark : (run d : ℕ) (ds : List ℕ) → is_nonstarter d ≡ true → run_after run (d ∷ ds) ≡ run_after (run + 1) ds
unfolding run_after
run_after-mark run d ds h = cond-true _ _ _ h

pub run_after-starter : (run d : ℕ) (ds : List ℕ) → is_nonstarter d ≡ false → run_after run (d ∷ ds) ≡ run_after 0 ds
unfolding run_after
run_after-starter run d ds h = cond-false _ _ _ h

pub run_after-nil : (run : ℕ) → run_after run [] ≡ run
unfolding run_after
run_after-nil run = refl

pub run_after-append : (run : ℕ) (xs ys : List ℕ) → run_after run (xs ++ ys) ≡ run_after (run_after run xs) ys
run_after-append run [] ys = ap (λ n. run_after n ys) (sym (run_after-nil run))
run_after-append run (x ∷ xs) ys =
    elim (cases_Bool (is_nonstarter x)) [
      | inl mark ↦
          run_after-mark run x (xs ++ ys) mark ∙ run_after-append (run + 1) xs ys ∙ ap (λ n. run_after n ys) (sym (run_after-mark run x xs mark))
      | inr starter ↦
          run_after-starter run x (xs ++ ys) starter ∙ run_after-append 0 xs ys ∙ ap (λ n. run_after n ys) (sym (run_after-starter run x xs starter))
    ]

-- the limit that the definition of short runs has is that of the code
pub short-mark : (run d : ℕ) (ds : List ℕ) → is_nonstarter d ≡ true → has_short_runs run (d ∷ ds) ≡ (nat_lt run MOST_WAITING && has_short_runs (run + 1) ds)
unfolding has_short_runs
short-mark run d ds h = cond-true _ _ _ h

pub short-starter : (run d : ℕ) (ds : List ℕ) → is_nonstarter d ≡ false → has_short_runs run (d ∷ ds) ≡ has_short_runs 0 ds
unfolding has_short_runs
short-starter run d ds h = cond-false _ _ _ h

-- a non-starter where there is room for one more, and where there is none
pub short-longer : (run d : ℕ) (ds : List ℕ) → is_nonstarter d ≡ true → run < MOST_WAITING → has_short_runs run (d ∷ ds) ≡ has_short_runs (run + 1) ds
short-longer run d ds h room = short-mark run d ds h ∙ ap (λ b. b && has_short_runs (run + 1) ds) (lt-ltb run MOST_WAITING room)

pub short-too_long : (run d : ℕ) (ds : List ℕ) → is_nonstarter d ≡ true → MOST_WAITING ≤ run → has_short_runs run (d ∷ ds) ≡ false
short-too_long run d ds h full = short-mark run d ds h ∙ and_left _ _ (le-ltb run MOST_WAITING full)

pub short-room : (run d : ℕ) (ds : List ℕ) → is_nonstarter d ≡ true → has_short_runs run (d ∷ ds) ≡ true → (run < MOST_WAITING) × (has_short_runs (run + 1) ds ≡ true)
short-room run d ds mark h =
    let parts = and_parts (nat_lt run MOST_WAITING) (has_short_runs (run + 1) ds) (sym (short-mark run d ds mark) ∙ h) in
    (ltb-true run MOST_WAITING parts.0, parts.1)

pub short-nil : (run : ℕ) → has_short_runs run [] ≡ true
unfolding has_short_runs
short-nil run = refl

pub short-append : (run : ℕ) (xs ys : List ℕ) → has_short_runs run (xs ++ ys) ≡ (has_short_runs run xs && has_short_runs (run_after run xs) ys)
short-append run [] ys = ap₂ (λ (a : Bool) n. a && has_short_runs n ys) (sym (short-nil run)) (sym (run_after-nil run))
short-append run (x ∷ xs) ys =
    elim (cases_Bool (is_nonstarter x)) [
      | inl mark ↦
          short-mark run x (xs ++ ys) mark ∙ ap (λ b. nat_lt run MOST_WAITING && b) (short-append (run + 1) xs ys)
          ∙ sym (and_assoc (nat_lt run MOST_WAITING) (has_short_runs (run + 1) xs) _)
          ∙ ap₂ (λ a n. a && has_short_runs n ys) (sym (short-mark run x xs mark)) (sym (run_after-mark run x xs mark))
      | inr starter ↦
          short-starter run x (xs ++ ys) starter ∙ short-append 0 xs ys
          ∙ ap₂ (λ a n. a && has_short_runs n ys) (sym (short-starter run x xs starter)) (sym (run_after-starter run x xs starter))
    ]

pub run_after-few : (run : ℕ) (ds : List ℕ) → run ≤ MOST_WAITING → has_short_runs run ds ≡ true → run_after run ds ≤ MOST_WAITING
run_after-few run [] le h = omega (arith, run_after-nil run)
run_after-few run (d ∷ ds) le h =
    elim (cases_Bool (is_nonstarter d)) [
      | inl mark ↦
          let parts = short-room run d ds mark h in
          omega (arith, run_after-mark run d ds mark, run_after-few (run + 1) ds (omega (arith, parts.0)) parts.1)
      | inr starter ↦
          omega (arith, run_after-starter run d ds starter, run_after-few 0 ds (omega arith) (sym (short-starter run d ds starter) ∙ h))
    ]

-- ---- the fault at a code point

pub fault_of_code_point-parts : (run c : ℕ) → fault_of_code_point run c ≡ part_fault run (decomposition c)
unfolding fault_of_code_point
fault_of_code_point-parts run c = refl

-- a decomposition without a fault
pub part_fault-none : (run : ℕ) (ds : List ℕ) → part_fault run ds ≡ None → (length ds ≤ 4) × (has_short_runs run ds ≡ true)
part_fault-none run ds h =
    elim (cases_Bool (nat_lt 4 (length ds))) [
      | inl long ↦ let some : ◌≡◌ {A = Option ℕ} (Some 33) None = sym (cond-true _ _ _ long) ∙ h in cc
      | inr few ↦ elim (cases_Bool (has_short_runs run ds)) [
        | inl short ↦ (ltb-false 4 (length ds) few, short)
        | inr over ↦ let some : ◌≡◌ {A = Option ℕ} (Some 32) None = sym (cond-false _ _ _ few ∙ cond-false _ _ _ over) ∙ h in cc
      ]
    ]

pub fault_of_code_point-none : (run c : ℕ) → has_short_runs run (decomposition c) ≡ true → fault_of_code_point run c ≡ None
unfolding fault_of_code_point
fault_of_code_point-none run c h =
    cond-false _ _ _ (le-ltb 4 (length (decomposition c)) (length-decomposition c)) ∙ cond-true _ _ _ h

pub fault_of_code_point-run : (run c : ℕ) → has_short_runs run (decomposition c) ≡ false → fault_of_code_point run c ≡ Some 32
unfolding fault_of_code_point
fault_of_code_point-run run c h =
    cond-false _ _ _ (le-ltb 4 (length (decomposition c)) (length-decomposition c)) ∙ cond-false _ _ _ h

pub fault_of_code_point-kind : (run c kind : ℕ) → fault_of_code_point run c ≡ Some kind → kind ≡ 32
fault_of_code_point-kind run c kind h =
    elim (cases_Bool (has_short_runs run (decomposition c))) [
      | inl short ↦ let clash = sym h ∙ fault_of_code_point-none run c short in cc
      | inr long ↦ let same = sym h ∙ fault_of_code_point-run run c long in cc
    ]

-- ---- the first fault of a list

pub fault_from-here : (start run c kind : ℕ) (cs : List ℕ) → fault_of_code_point run c ≡ Some kind → fault_from start run (c ∷ cs) ≡ Some (start, kind)
unfolding fault_from
fault_from-here start run c kind cs h =
    ap (λ (k : Option ℕ). elim k as (λ _. Option (ℕ × ℕ)) [ Some n ↦ Some (start, n) | None ↦ fault_from (start + len_utf8 c) (run_after run (decomposition c)) cs ]) h

pub fault_from-later : (start run c : ℕ) (cs : List ℕ) → fault_of_code_point run c ≡ None → fault_from start run (c ∷ cs) ≡ fault_from (start + len_utf8 c) (run_after run (decomposition c)) cs
unfolding fault_from
fault_from-later start run c cs h =
    ap (λ (k : Option ℕ). elim k as (λ _. Option (ℕ × ℕ)) [ Some n ↦ Some (start, n) | None ↦ fault_from (start + len_utf8 c) (run_after run (decomposition c)) cs ]) h

pub fault_from-nil : (start run : ℕ) → fault_from start run [] ≡ None
unfolding fault_from
fault_from-nil start run = refl

cases_fault : (o : Option ℕ) → (o ≡ None) ⊎ ((kind : ℕ) × (o ≡ Some kind))
cases_fault None = inl refl
cases_fault (Some kind) = inr (kind, refl)

-- where the prefix has no fault, the first fault is that of the rest
pub fault_from-good : (start run : ℕ) (xs ys : List ℕ) → fault_from start run xs ≡ None → fault_from start run (xs ++ ys) ≡ fault_from (start + byte_len xs) (run_after run (flat_map decomposition xs)) ys
fault_from-good start run [] ys h =
    ap₂ (λ m n. fault_from m n ys) (omega (arith, byte_len-nil)) (sym (run_after-nil run))
fault_from-good start run (x ∷ xs) ys h =
    elim (cases_fault (fault_of_code_point run x)) [
      | inr at ↦ let clash = sym h ∙ fault_from-here start run x at.0 xs at.1 in cc
      | inl none ↦
          fault_from-later start run x (xs ++ ys) none
          ∙ fault_from-good (start + len_utf8 x) (run_after run (decomposition x)) xs ys (sym (fault_from-later start run x xs none) ∙ h)
          ∙ ap₂ (λ m n. fault_from m n ys) (omega (arith, byte_len-cons x xs))
          (sym (run_after-append run (decomposition x) (flat_map decomposition xs)))
    ]

-- a fault of the prefix is the first fault of the whole
pub fault_from-prefix : (start run : ℕ) (xs ys : List ℕ) (fault : ℕ × ℕ) → fault_from start run xs ≡ Some fault → fault_from start run (xs ++ ys) ≡ Some fault
fault_from-prefix start run [] ys fault h = let clash = sym (fault_from-nil start run) ∙ h in cc
fault_from-prefix start run (x ∷ xs) ys fault h =
    elim (cases_fault (fault_of_code_point run x)) [
      | inr at ↦ fault_from-here start run x at.0 (xs ++ ys) at.1 ∙ sym (fault_from-here start run x at.0 xs at.1) ∙ h
      | inl none ↦
          fault_from-later start run x (xs ++ ys) none
          ∙ fault_from-prefix (start + len_utf8 x) (run_after run (decomposition x)) xs ys fault (sym (fault_from-later start run x xs none) ∙ h)
    ]
