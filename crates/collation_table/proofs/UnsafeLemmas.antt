-- The code points that rows make unsafe, and the set that keeps them.
use Rattle.std.proofs.Common.{◌≡◌, ◌≢◌, ℕ, ◌*◌, ◌/◌, ◌%◌, ◌^◌, ◌<◌, Bool, true, false, ◌==◌, ◌||◌, List, [], ◌∷◌, ◌++◌, length, drop, get_or, get_or-set_same, get_or-set_other, refl, sym, ap, ◌∙◌, inl, inr, arith}
use Rattle.std.proofs.lemmas.Bool.{cases_Bool, false≢true, or_right, eq-eqb, eqb-true}
use Rattle.std.proofs.lemmas.Nat.Bits.{bit_at_set_same, bit_at_set_other}
use Rattle.std.proofs.Math.ListN.{set}
use Rattle.std.specs.Int.{bit_at, w64}
use Rattle.std.specs.Int.Bits.{bit_or}
use mir.Val.{bits}
use Rattle.std.specs.List.{list_any}
use Rattle.collation_table.specs.Unsafe.{is_behind_first, begins_with}

-- ---- a test of a list and one more

pub or_nil : (b : Bool) → (b || false) ≡ b
or_nil true = refl
or_nil false = refl

pub or_assoc : (a b c : Bool) → ((a || b) || c) ≡ (a || (b || c))
or_assoc true b c = refl
or_assoc false b c = refl

pub any-push : {X : Type 0} (p : X → Bool) (xs : List X) (x : X) → list_any p (xs ++ x ∷ []) ≡ (list_any p xs || p x)
any-push p [] x = or_nil (p x)
any-push p (y ∷ ys) x = ap (λ b. p y || b) (any-push p ys x) ∙ sym (or_assoc (p y) (list_any p ys) (p x))

-- ---- one code point more in the set

abbrev has_bit : List ℕ → ℕ → Bool
has_bit words cp = bit_at (get_or words (cp / 64) 0) (cp % 64) == 1

differs : (a b : ℕ) → (a == b) ≡ false → a ≢ b
differs a b other same = false≢true (sym other ∙ eq-eqb a b same)

module _ (words : List ℕ) (cp word : ℕ) (room : cp / 64 < length words) (is : get_or words (cp / 64) 0 ≡ word) where
  abbrev more : List ℕ
  more = set words (cp / 64) (bit_or word (1 * 2 ^ (cp % 64) % 2 ^ bits w64))

  within : cp % 64 < bits w64
  within = omega arith

  word-here : get_or more (cp / 64) 0 ≡ bit_or word (1 * 2 ^ (cp % 64) % 2 ^ bits w64)
  word-here = get_or-set_same words (cp / 64) (bit_or word (1 * 2 ^ (cp % 64) % 2 ^ bits w64)) 0 room

  put-here : has_bit more cp ≡ true
  put-here = ap (λ n. bit_at n (cp % 64) == 1) word-here ∙ eq-eqb _ 1 (bit_at_set_same w64 word (cp % 64) within)

  put-there : (q : ℕ) → q ≢ cp → has_bit more q ≡ has_bit words q
  put-there q other =
      elim (cases_Bool (q / 64 == cp / 64)) [
        | inl same ↦
            let one = eqb-true (q / 64) (cp / 64) same in
            let apart : q % 64 ≢ cp % 64 = λ bit. other (omega (arith, one, bit)) in
            ap (λ n. bit_at (get_or more n 0) (q % 64) == 1) one
            ∙ ap (λ n. bit_at n (q % 64) == 1) word-here
            ∙ ap (λ n. n == 1) (bit_at_set_other w64 word (cp % 64) within (q % 64) apart)
            ∙ ap (λ n. bit_at n (q % 64) == 1) (sym is)
            ∙ ap (λ n. bit_at (get_or words n 0) (q % 64) == 1) (sym one)
        | inr two ↦ ap (λ n. bit_at n (q % 64) == 1) (get_or-set_other words (cp / 64) (q / 64) (bit_or word (1 * 2 ^ (cp % 64) % 2 ^ bits w64)) 0 (differs (q / 64) (cp / 64) two))
      ]

  pub put-bit : (q : ℕ) → has_bit more q ≡ (has_bit words q || (q == cp))
  put-bit q =
      elim (cases_Bool (q == cp)) [
        | inl same ↦ ap (has_bit more) (eqb-true q cp same) ∙ put-here ∙ sym (or_right (has_bit words q) (q == cp) same)
        | inr other ↦ put-there q (differs q cp other) ∙ sym (ap (λ b. has_bit words q || b) other ∙ or_nil (has_bit words q))
      ]

-- ---- what one row makes unsafe

pub behind-drop : (q : ℕ) (string : List ℕ) → list_any (λ c. c == q) (drop 1 string) ≡ is_behind_first q string
behind-drop q [] = refl
behind-drop q (first ∷ rest) = refl

pub begins-first : (q : ℕ) (string : List ℕ) → 0 < length string → begins_with q string ≡ (get_or string 0 0 == q)
begins-first q [] some = absurd (omega arith)
begins-first q (first ∷ rest) some = refl
