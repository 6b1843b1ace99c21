-- The character that stands at an offset of a text, and of the piece whose whole characters it is.
use Rattle.std.specs.Prelude.{Option, None, Some, IfSome}
use Rattle.std.specs.Char.{IsScalar, len_utf8, encode_utf8}
use Rattle.std.specs.Str.{chars, IsUtf8}
use Rattle.std.specs.declared.str.Chars.{Chars}
use Rattle.std.specs.Str.Iter.{chars_rest, chars_steps}
use Rattle.std.proofs.Common.{◌≡◌, ◌∙◌, inl, inr, ℕ, ◌+◌, ◌-◌, ◌≤◌, true, List, [], ◌∷◌, ◌++◌, length, take, drop, slice_get, sym, ap, subst, arith, length-append}
use Rattle.std.proofs.lemmas.Bool.{and_parts, cases_lt}
use Rattle.std.proofs.lemmas.List.{drop-take, drop_all, length-take, take_at}
use Rattle.std.proofs.lemmas.Str.{length-encode, scalars-chars}
use Rattle.utf8_cut.specs.Sequences.{SpellsCharacter}
use Rattle.collation_matches.proofs.SearchLemmas.{take_within}
use lib.Utf8.{scalar, scalars}

scalar-first : (cs : List ℕ) (c : ℕ) → scalars cs ≡ true → Some c ≡ slice_get cs 0 → IsScalar c
scalar-first [] c all first = absurd cc
scalar-first (x ∷ xs) c all first = let same : x ≡ c = cc in subst IsScalar same (and_parts (scalar x) (scalars xs) all).0

-- what the front of a text gives is its first character
pub first-spelled : (bytes : List ℕ) (s t : Chars) (r : Option ℕ) → IsUtf8 bytes → chars_rest s ≡ bytes → chars_steps s r t →
    IfSome r (λ c. (len_utf8 c ≤ length bytes) × SpellsCharacter (take (len_utf8 c) bytes) c)
first-spelled bytes s t None text rest steps = tt
first-spelled bytes s t (Some c) text rest steps =
    let is : bytes ≡ encode_utf8 c ++ chars_rest t = sym rest ∙ steps.0 in
    let first : Some c ≡ slice_get (chars bytes) 0 = steps.2 ∙ ap (λ (bs : List ℕ). slice_get (chars bs) 0) rest in
    let long = length-encode c in
    let all = ap length is ∙ length-append (encode_utf8 c) (chars_rest t) in
    (omega (arith, long, all), (scalar-first (chars bytes) c (scalars-chars bytes text) first, ap (take (len_utf8 c)) is ∙ take_at (encode_utf8 c) (chars_rest t) (len_utf8 c) long))

-- and that of bytes that begin so
pub spelled-in : (bytes rest : List ℕ) (n : ℕ) (r : Option ℕ) → rest ≡ take n bytes → IfSome r (λ c. (len_utf8 c ≤ length rest) × SpellsCharacter (take (len_utf8 c) rest) c) →
    IfSome r (λ c. (len_utf8 c ≤ length bytes) × SpellsCharacter (take (len_utf8 c) bytes) c)
spelled-in bytes rest n None is h = tt
spelled-in bytes rest n (Some c) is h =
    let long = ap length is in
    let within : len_utf8 c ≤ length (take n bytes) = omega (arith, h.0, long) in
    let front = length-take n bytes in
    (omega (arith, within, front), subst (λ (bs : List ℕ). SpellsCharacter bs c) (ap (take (len_utf8 c)) is ∙ take_within (len_utf8 c) n bytes within) h.1)

-- what stands in the front of a piece from an offset on begins what stands there in the piece
pub front-from : (piece text : List ℕ) (end at : ℕ) → text ≡ take end piece → (n : ℕ) × (drop at text ≡ take n (drop at piece))
front-from piece text end at is = elim (cases_lt at end) [
  | inl near ↦
      let there : at + (end - at) ≡ end = omega (arith, near) in
      (end - at, ap (drop at) is ∙ ap (λ k. drop at (take k piece)) (sym there) ∙ drop-take at (end - at) piece)
  | inr far ↦
      let short = ap length is ∙ length-take end piece in
      (0, drop_all at text (omega (arith, short, far)))
]
