-- Pieces that are read or written one after the other.
use Rattle.std.proofs.Common.{arith, true, ◌==◌, drop, ◌+◌, ◌-◌, ◌≤◌, length-drop, ◌≡◌, ℕ, List, [], ◌++◌, length, take, refl, sym, ap, ◌∙◌, append_assoc, Option, Some, None, append-nil}
use Rattle.std.proofs.lemmas.List.{take_all, take-append-drop, nil_from_length}
use Rattle.std.proofs.lemmas.Bool.{eqb-true}
use Rattle.colfind_io.specs.Devices.{after_piece, with_piece}
use Rattle.colfind_io.specs.Writing.{WritesPrefix}

-- two pieces written in turn are one
pub with_piece-then : (first second : List ℕ) (held : Option (List ℕ)) → with_piece second (with_piece first held) ≡ with_piece (first ++ second) held
with_piece-then first second None = refl
with_piece-then first second (Some bytes) = ap Some (append_assoc bytes first second)

-- no bytes written leave all as it was
pub with_piece-nil : (held : Option (List ℕ)) → with_piece [] held ≡ held
with_piece-nil None = refl
with_piece-nil (Some bytes) = ap Some (append-nil bytes)

-- two pieces read in turn are one
pub after_piece-then : (first second : List ℕ) (left : Option (List ℕ)) → after_piece first (after_piece second left) ≡ after_piece (first ++ second) left
after_piece-then first second None = refl
after_piece-then first second (Some rest) = ap Some (sym (append_assoc first second rest))

-- one write more
pub write-step : (before during after : Option (List ℕ)) (written piece : List ℕ)
    → during ≡ with_piece written before → after ≡ with_piece piece during
    → after ≡ with_piece (written ++ piece) before
write-step before during after written piece first second =
    second ∙ ap (with_piece piece) first ∙ with_piece-then written piece before

-- the last call took nothing
pub prefix-stays : (before during after : Option (List ℕ)) (bytes : List ℕ)
    → WritesPrefix before during bytes → after ≡ with_piece [] during → WritesPrefix before after bytes
prefix-stays before during after bytes prefix stays =
    record { prefix = prefix.prefix; rest = prefix.rest; whole = prefix.whole; written = stays ∙ with_piece-nil during ∙ prefix.written }

-- the last of several writes stopped at a prefix of its bytes
pub prefix-of_part : (before during after : Option (List ℕ)) (written piece rest bytes : List ℕ)
    → bytes ≡ (written ++ piece) ++ rest → during ≡ with_piece written before
    → WritesPrefix during after piece → WritesPrefix before after bytes
prefix-of_part before during after written piece rest bytes whole first prefix = record {
  prefix = written ++ prefix.prefix;
  rest = prefix.rest ++ rest;
  whole = whole ∙ ap (λ xs. (written ++ xs) ++ rest) prefix.whole
      ∙ ap (λ xs. xs ++ rest) (sym (append_assoc written prefix.prefix prefix.rest))
      ∙ append_assoc (written ++ prefix.prefix) prefix.rest rest;
  written = write-step before during after written prefix.prefix first prefix.written;
}

-- the first k of what is left go after what was written
pub split-after : (written rest bytes : List ℕ) (k n : ℕ) → bytes ≡ written ++ rest → length rest ≤ n + k
    → bytes ≡ (written ++ take k rest) ++ take n (drop k rest)
split-after written rest bytes k n whole room =
    let short : length (drop k rest) ≤ n = omega (arith, length-drop k rest) in
    whole ∙ ap (λ xs. written ++ xs) (sym (take-append-drop k rest))
    ∙ sym (append_assoc written (take k rest) (drop k rest))
    ∙ ap (λ xs. (written ++ take k rest) ++ xs) (sym (take_all n (drop k rest) short))

pub le-sub-add : (a k : ℕ) → a ≤ (a - k) + k
le-sub-add a k = omega arith

-- nothing is left to write
pub prefix-all : (before after : Option (List ℕ)) (bytes rest : List ℕ) (prefix : WritesPrefix before after bytes)
    → prefix.rest ≡ rest → true ≡ (length rest == 0) → after ≡ with_piece bytes before
prefix-all before after bytes rest prefix is_rest test =
    let none = is_rest ∙ nil_from_length rest (eqb-true (length rest) 0 (sym test)) in
    prefix.written ∙ ap (λ xs. with_piece xs before) (sym (prefix.whole ∙ ap (λ xs. prefix.prefix ++ xs) none ∙ append-nil prefix.prefix))
