-- The tests of a state, record by record.
use Rattle.std.proofs.Common.{◌≡◌, ℕ, suc, ◌-◌, ◌≤◌, Bool, true, false, ◌==◌, List, [], ◌∷◌, length, take, drop, slice_index_or, refl, ap, sym, ◌∙◌, arith, Result, Ok, Err, OnErr}
use Rattle.std.proofs.lemmas.Bool.{le-leb}
use Rattle.std.proofs.lemmas.List.{take_all}
use Rattle.collation_states.specs.State.{flag_word}
use Rattle.collation_states.specs.StateTests.{are_places, is_flag}

-- ---- flags

pub flag-is : (b : Bool) → is_flag (flag_word b) ≡ true
flag-is true = refl
flag-is false = refl

pub flag-read : (b : Bool) → (flag_word b == 1) ≡ b
flag-read true = refl
flag-read false = refl

-- ---- places

place-test : (least most s f a b : ℕ) (later : List ℕ) → least ≤ s → s ≤ most → f ≤ 1 → a ≡ 0 → b ≡ 0 →
    are_places least most (s ∷ f ∷ a ∷ b ∷ later) ≡ are_places s most later
place-test least most s f a b later l m flag za zb = rw (le-leb least s l, le-leb s most m, le-leb f 1 flag, za, zb) refl

-- the first place is right, so the others decide
pub places-next : (least most : ℕ) (words : List ℕ) → 4 ≤ length words →
    least ≤ slice_index_or words 0 0 → slice_index_or words 0 0 ≤ most → slice_index_or words 1 0 ≤ 1 → slice_index_or words 2 0 ≡ 0 → slice_index_or words 3 0 ≡ 0 →
    are_places least most words ≡ are_places (slice_index_or words 0 0) most (take (length words - 4) (drop 4 words))
places-next least most [] len l m f a b = let no : ⊥ = omega arith in elim no [ ]
places-next least most (s ∷ []) len l m f a b = let no : ⊥ = omega arith in elim no [ ]
places-next least most (s ∷ t ∷ []) len l m f a b = let no : ⊥ = omega arith in elim no [ ]
places-next least most (s ∷ t ∷ u ∷ []) len l m f a b = let no : ⊥ = omega arith in elim no [ ]
places-next least most (s ∷ t ∷ u ∷ v ∷ later) len l m f a b =
    place-test least most s t u v later l m f a b ∙ ap (are_places s most) (sym (take_all (suc (suc (suc (suc (length later)))) - 4) later (omega arith)))

-- ---- results

pub on_err : {A E : Type 0} (r : Result A E) (P : Type 0) → P → OnErr r P
on_err (Ok a) P p = tt
on_err (Err e) P p = p
