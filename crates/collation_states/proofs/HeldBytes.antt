-- The number that represents the bytes held gives them back.
use Rattle.std.specs.Int.{is_in_range}
use Rattle.std.specs.Str.Lossy.{second_byte_min, second_byte_max}
use Rattle.std.proofs.Common.{◌≡◌, ℕ, ◌+◌, ◌*◌, ◌/◌, ◌%◌, ◌<◌, ◌≤◌, ◌==◌, true, nat_le, cond, ◌&&◌, List, [], ◌∷◌, length, refl, ap, ap₂, ◌∙◌, arith, inl, inr}
use Rattle.std.proofs.lemmas.Bool.{and_parts, cases_Bool, leb-true}
use Rattle.std.proofs.lemmas.Nat.{div-mul-add, mod-mul-add}
use Rattle.utf8_cut.specs.Characters.{is_incomplete_or_empty}
use Rattle.collation_states.specs.State.{number_of}
use Rattle.collation_states.specs.StateTests.{bytes_in}

-- ---- bytes of a character are below 256

second-most : (x : ℕ) → second_byte_max x ≤ 191
second-most x =
    elim (cases_Bool (x == 0xED)) [
      | inl a ↦ let e : second_byte_max x ≡ 159 = ap (λ b. cond b 159 (cond (x == 0xF4) 143 191)) a in omega arith
      | inr a ↦ elim (cases_Bool (x == 0xF4)) [
        | inl b ↦ let e : second_byte_max x ≡ 143 = ap (λ b. cond b 159 (cond (x == 0xF4) 143 191)) a ∙ ap (λ b. cond b 143 191) b in omega arith
        | inr b ↦ let e : second_byte_max x ≡ 191 = ap (λ b. cond b 159 (cond (x == 0xF4) 143 191)) a ∙ ap (λ b. cond b 143 191) b in omega arith
      ]
    ]

at-most : (low high x : ℕ) → is_in_range low high x ≡ true → x ≤ high
at-most low high x h = leb-true x high (and_parts (nat_le low x) (nat_le x high) h).1

-- ---- bytes in a number

no-more : (x : ℕ) → 0 * 256 + x ≡ x
no-more x = omega arith

two-back : (x y : ℕ) → y < 256 → bytes_in 2 (number_of (x ∷ y ∷ [])) ≡ x ∷ y ∷ []
two-back x y below =
    ap₂ (λ a b. a ∷ b ∷ []) (div-mul-add (0 * 256 + x) 256 y below ∙ no-more x) (mod-mul-add (0 * 256 + x) 256 y below)

three-back : (x y z : ℕ) → y < 256 → z < 256 → bytes_in 3 (number_of (x ∷ y ∷ z ∷ [])) ≡ x ∷ y ∷ z ∷ []
three-back x y z second third =
    let pair = (0 * 256 + x) * 256 + y in
    let n = pair * 256 + z in
    let parts : n ≡ x * 65536 + (y * 256 + z) = omega arith in
    let first : n / 65536 ≡ x = ap (λ k. k / 65536) parts ∙ div-mul-add x 65536 (y * 256 + z) (omega arith) in
    let middle : n / 256 % 256 ≡ y = ap (λ k. k % 256) (div-mul-add pair 256 z third) ∙ mod-mul-add (0 * 256 + x) 256 y second in
    let last : n % 256 ≡ z = mod-mul-add pair 256 z third in
    ap₂ (λ a (l : List ℕ). a ∷ l) first (ap₂ (λ a b. a ∷ b ∷ []) middle last)

pub bytes_in-held : (held : List ℕ) → is_incomplete_or_empty held ≡ true → bytes_in (length held) (number_of held) ≡ held
bytes_in-held [] h = refl
bytes_in-held (x ∷ []) h = ap (λ n. n ∷ []) (no-more x)
bytes_in-held (x ∷ y ∷ []) h =
    let second = at-most (second_byte_min x) (second_byte_max x) y (and_parts (is_in_range 0xE0 0xF4 x) (is_in_range (second_byte_min x) (second_byte_max x) y) h).1 in
    two-back x y (omega (arith, second, second-most x))
bytes_in-held (x ∷ y ∷ z ∷ []) h =
    let a = and_parts (is_in_range 0xF0 0xF4 x) (is_in_range (second_byte_min x) (second_byte_max x) y && is_in_range 0x80 0xBF z) h in
    let b = and_parts (is_in_range (second_byte_min x) (second_byte_max x) y) (is_in_range 0x80 0xBF z) a.1 in
    three-back x y z (omega (arith, at-most (second_byte_min x) (second_byte_max x) y b.0, second-most x)) (omega (arith, at-most 0x80 0xBF z b.1))
bytes_in-held (x ∷ y ∷ z ∷ w ∷ more) h = cc

-- at most three
pub held-few : (held : List ℕ) → is_incomplete_or_empty held ≡ true → length held ≤ 3
held-few [] h = omega arith
held-few (x ∷ []) h = omega arith
held-few (x ∷ y ∷ []) h = omega arith
held-few (x ∷ y ∷ z ∷ []) h = omega arith
held-few (x ∷ y ∷ z ∷ w ∷ more) h = cc
