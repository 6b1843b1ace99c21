-- A text in a buffer.
use Rattle.std.proofs.Common.{◌≡◌, ◌∙◌, ℕ, zero, suc, ◌+◌, ◌-◌, ◌<◌, ◌≤◌, List, [], ◌∷◌, ◌++◌, length, min, take, drop, slice_set, refl, ap, arith}
use Rattle.std.proofs.lemmas.List.{set-append_right}
use Rattle.colfind_c.specs.Messages.{as_text}

set_first : (n : ℕ) (xs : List ℕ) (v : ℕ) → n < length xs → slice_set (drop n xs) 0 v ≡ v ∷ drop (suc n) xs
set_first n [] v h = absurd (omega (arith, h))
set_first zero (x ∷ xs) v h = refl
set_first (suc n) (x ∷ xs) v h = set_first n xs v (omega (arith, h))

pub text_written : (text out w : List ℕ) (n room : ℕ) → room + 1 ≡ length out → n ≡ min (length text) room → n ≤ room → length w ≡ n → w ≡ take n text
    → slice_set (w ++ drop n out) n 0 ≡ as_text text out
text_written text [] w n room some least low len is = absurd (omega (arith, some))
text_written text (b ∷ before) w n room some least low len is =
    let same : room ≡ length before = omega (arith, some) in
    let at : n - n ≡ 0 = omega arith in
    let count : n ≡ min (length text) (length before) = least ∙ ap (λ k. min (length text) k) same in
    set-append_right w (drop n (b ∷ before)) n n 0 len (omega arith)
    ∙ ap (λ k. w ++ slice_set (drop n (b ∷ before)) k 0) at
    ∙ ap (λ xs. w ++ xs) (set_first n (b ∷ before) 0 (omega (arith, some, low)))
    ∙ ap (λ xs. xs ++ 0 ∷ drop n before) is
    ∙ ap (λ k. take k text ++ 0 ∷ drop k before) count

-- what is appended part by part
pub joined : (a b c d e f p q r s all : List ℕ) → p ≡ a ++ b → q ≡ p ++ c → r ≡ q ++ d → s ≡ r ++ e → all ≡ s ++ f → all ≡ a ++ b ++ c ++ d ++ e ++ f
joined a b c d e f p q r s all ab abc abcd abcde is = is ∙ ap (λ xs. xs ++ f) (abcde ∙ ap (λ xs. xs ++ e) (abcd ∙ ap (λ xs. xs ++ d) (abc ∙ ap (λ xs. xs ++ c) ab)))
