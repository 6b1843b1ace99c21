-- Characters at the front of a piece, one after another.
use Rattle.std.specs.Char.{len_utf8, encode_utf8}
use Rattle.std.specs.Str.{chars, IsUtf8}
use Rattle.std.proofs.Common.{◌≡◌, ◌∙◌, ℕ, zero, suc, ◌+◌, ◌-◌, ◌≤◌, List, [], ◌∷◌, ◌++◌, take, drop, sym, ap, subst, arith}
use Rattle.std.proofs.Math.Seq.{take-add}
use Rattle.std.proofs.lemmas.List.{append-nil, drop-drop}
use Rattle.std.proofs.lemmas.Str.{chars-nil, IsUtf8-append, IsUtf8-encode, chars-append, chars_from_encodes}
use Rattle.utf8_cut.specs.Sequences.{SpellsCharacter}

-- ---- the bytes so far

pub text-more : (piece : List ℕ) (at n : ℕ) → IsUtf8 (take at piece) → IsUtf8 (take n (drop at piece)) → IsUtf8 (take (at + n) piece)
text-more piece at n text more = subst IsUtf8 (sym (take-add at n piece)) (IsUtf8-append (take at piece) (take n (drop at piece)) text more)

pub chars-more : (piece : List ℕ) (at n : ℕ) → IsUtf8 (take at piece) → chars (take (at + n) piece) ≡ chars (take at piece) ++ chars (take n (drop at piece))
chars-more piece at n text = ap chars (take-add at n piece) ∙ chars-append (take at piece) (take n (drop at piece)) text

pub one_char : (bytes : List ℕ) (c : ℕ) → SpellsCharacter bytes c → IsUtf8 bytes × (chars bytes ≡ c ∷ [])
one_char bytes c h =
    let text : IsUtf8 bytes = subst IsUtf8 (sym h.1) (IsUtf8-encode c h.0) in
    (text, sym (chars_from_encodes (c ∷ []) bytes text (append-nil (encode_utf8 c) ∙ sym h.1)))

-- the first bytes of a piece are a character
pub one_taken : (piece : List ℕ) (n c : ℕ) → n ≡ len_utf8 c → SpellsCharacter (take (len_utf8 c) piece) c → IsUtf8 (take n piece) × (chars (take n piece) ≡ c ∷ [])
one_taken piece n c len spelled = subst (λ k. IsUtf8 (take k piece) × (chars (take k piece) ≡ c ∷ [])) (sym len) (one_char (take (len_utf8 c) piece) c spelled)

pub spells-after : (piece : List ℕ) (at n next : ℕ) → SpellsCharacter (take (len_utf8 next) (drop n (drop at piece))) next → SpellsCharacter (take (len_utf8 next) (drop (at + n) piece)) next
spells-after piece at n next h = subst (λ (bs : List ℕ). SpellsCharacter (take (len_utf8 next) bs) next) (drop-drop n at piece) h

-- characters that are not none have bytes
pub some-bytes : (piece : List ℕ) (n c : ℕ) (others : List ℕ) → chars (take n piece) ≡ c ∷ others → 1 ≤ n
some-bytes piece zero c others h = absurd (none_first (sym chars-nil ∙ h))
  where
    none_first : ◌≡◌ {A = List ℕ} [] (c ∷ others) → ⊥
    none_first e = cc
some-bytes piece (suc n) c others h = omega arith

-- ---- the bytes from at to end

pub one_part : (piece : List ℕ) (at end c : ℕ) → end ≡ at + len_utf8 c → SpellsCharacter (take (len_utf8 c) (drop at piece)) c → IsUtf8 (take (end - at) (drop at piece)) × (chars (take (end - at) (drop at piece)) ≡ c ∷ [])
one_part piece at end c len spelled = one_taken (drop at piece) (end - at) c (omega (arith, len)) spelled

after-part : (piece : List ℕ) (at end : ℕ) → at ≤ end → drop (end - at) (drop at piece) ≡ drop end piece
after-part piece at end forth =
    let there : at + (end - at) ≡ end = omega (arith, forth) in drop-drop (end - at) at piece ∙ ap (λ k. drop k piece) there

pub part-more : (piece : List ℕ) (at end n c : ℕ) → at ≤ end → IsUtf8 (take (end - at) (drop at piece)) → IsUtf8 (take n (drop end piece)) → chars (take n (drop end piece)) ≡ c ∷ [] →
    IsUtf8 (take (end + n - at) (drop at piece)) × (chars (take (end + n - at) (drop at piece)) ≡ chars (take (end - at) (drop at piece)) ++ c ∷ [])
part-more piece at end n c forth part text is =
    let len : end + n - at ≡ (end - at) + n = omega (arith, forth) in
    let rest = after-part piece at end forth in
    let bytes = drop at piece in (
      subst (λ k. IsUtf8 (take k bytes)) (sym len) (text-more bytes (end - at) n part (subst (λ (bs : List ℕ). IsUtf8 (take n bs)) (sym rest) text)),
      ap (λ k. chars (take k bytes)) len ∙ chars-more bytes (end - at) n part
          ∙ ap (λ (t : List ℕ). chars (take (end - at) bytes) ++ t) (ap (λ (bs : List ℕ). chars (take n bs)) rest ∙ is),
    )

pub text-part : (piece : List ℕ) (at end : ℕ) → at ≤ end → IsUtf8 (take at piece) → IsUtf8 (take (end - at) (drop at piece)) →
    IsUtf8 (take end piece) × (chars (take end piece) ≡ chars (take at piece) ++ chars (take (end - at) (drop at piece)))
text-part piece at end forth text part =
    let there : at + (end - at) ≡ end = omega (arith, forth) in (
      subst (λ k. IsUtf8 (take k piece)) there (text-more piece at (end - at) text part),
      ap (λ k. chars (take k piece)) (sym there) ∙ chars-more piece at (end - at) text,
    )
