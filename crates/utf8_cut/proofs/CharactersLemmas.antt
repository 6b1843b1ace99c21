-- The whole characters of a list, and what follows them.
use Rattle.std.proofs.Common.{◌≡◌, ℕ, zero, suc, ◌+◌, ◌<◌, ◌≤◌, Bool, true, false, List, [], ◌∷◌, ◌++◌, length, take, drop, refl, sym, ap, ◌∙◌, subst, inl, inr, ◌&&◌, arith, add-zero, append_assoc, append-nil, length-append, take-append-drop, length-drop, eq-eqb, ne_eqb}
use Rattle.std.specs.Option.{option_map}
use Rattle.std.specs.Prelude.{None, Some, cond}
use Rattle.std.proofs.lemmas.Bool.{false≢true, cases_lt, cases_eq}
use Rattle.std.proofs.lemmas.List.{take_at, drop_at}
use Rattle.std.proofs.Math.Seq.{take-add}
use Rattle.std.proofs.lemmas.Str.{IsUtf8-nil, IsUtf8-append, IsUtf8-encode, IsUtf8-from_is_utf8, is_utf8-from_IsUtf8, utf8_valid_len_le, utf8_valid_len-IsUtf8, utf8_valid_len-IsValidUpTo, length-encode, chars-append, encodes-chars, chars-encodes}
use Rattle.std.specs.Char.{IsScalar, len_utf8}
use Rattle.std.specs.Str.{IsUtf8, StartsWithNoChar, chars, is_utf8}
use Rattle.std.specs.Str.Lossy.{utf8_valid_len, valid_len_up_to}
use Rattle.std.proofs.str.Faults.{valid_to}
use Rattle.utf8_cut.specs.Characters.{characters_end, after_characters, with_offsets, characters_from, first_fault}
use Rattle.utf8_cut.proofs.TableLemmas.{encode_some, no_char_nil}
use lib.Utf8.{encode, encodes}

-- a list as whole characters and what follows them
pub record HasWholeCharacters (bytes whole rest : List ℕ) : Type 0 where
  pub parts : bytes ≡ whole ++ rest
  pub text : IsUtf8 whole
  pub no_char : StartsWithNoChar rest

split_end : (whole rest : List ℕ) → IsUtf8 whole → StartsWithNoChar rest → utf8_valid_len (whole ++ rest) ≡ length whole
split_end whole [] u n = rw append-nil (utf8_valid_len-IsUtf8 whole u)
split_end whole (x ∷ rest) u n = utf8_valid_len-IsValidUpTo (whole ++ x ∷ rest) (length whole)
    (valid_to (whole ++ x ∷ rest) (length whole) (omega (arith, length-append whole (x ∷ rest)))
    (subst IsUtf8 (sym (take_at whole (x ∷ rest) (length whole) refl)) u)
    (subst StartsWithNoChar (sym (drop_at whole (x ∷ rest) (length whole) refl)) n))

module _ (bytes whole rest : List ℕ) (s : HasWholeCharacters bytes whole rest) where
  pub Split-end : characters_end bytes ≡ length whole
  Split-end = ap utf8_valid_len s.parts ∙ split_end whole rest s.text s.no_char

  pub Split-prefix : take (characters_end bytes) bytes ≡ whole
  Split-prefix = ap (λ n. take n bytes) Split-end ∙ ap (take (length whole)) s.parts ∙ take_at whole rest (length whole) refl

  pub Split-after : after_characters bytes ≡ rest
  Split-after = ap (λ n. drop n bytes) Split-end ∙ ap (drop (length whole)) s.parts ∙ drop_at whole rest (length whole) refl

  pub Split-characters : (from : ℕ) → characters_from from bytes ≡ with_offsets from (chars whole)
  Split-characters from = ap (λ w. with_offsets from (chars w)) Split-prefix

-- ---- each list is so

valid_prefix_by : (bytes : List ℕ) (m n : ℕ) → IsUtf8 (take n bytes) → (t : Bool) → is_utf8 (take m bytes) ≡ t → IsUtf8 (take (cond t m n) bytes)
valid_prefix_by bytes m n u true e = IsUtf8-from_is_utf8 (take m bytes) e
valid_prefix_by bytes m n u false e = u

valid_prefix : (bytes : List ℕ) (m : ℕ) → IsUtf8 (take (valid_len_up_to bytes m) bytes)
valid_prefix bytes zero = IsUtf8-nil
valid_prefix bytes (suc m) = valid_prefix_by bytes (suc m) (valid_len_up_to bytes m) (valid_prefix bytes m) (is_utf8 (take (suc m) bytes)) refl

valid_longest_by : (bytes : List ℕ) (m n k : ℕ) → (n < k → k ≤ m → ⊥) → (t : Bool) → is_utf8 (take (suc m) bytes) ≡ t → cond t (suc m) n < k → k ≤ suc m → is_utf8 (take k bytes) ≡ true → ⊥
valid_longest_by bytes m n k below true e l h u = omega arith
valid_longest_by bytes m n k below false e l h u = elim (cases_lt m k) [
  | inl last ↦ let same : suc m ≡ k = omega arith in false≢true (sym e ∙ ap (λ j. is_utf8 (take j bytes)) same ∙ u)
  | inr less ↦ below l less
]

valid_longest : (bytes : List ℕ) (m k : ℕ) → valid_len_up_to bytes m < k → k ≤ m → is_utf8 (take k bytes) ≡ true → ⊥
valid_longest bytes zero k l h u = omega arith
valid_longest bytes (suc m) k l h u =
    valid_longest_by bytes m (valid_len_up_to bytes m) k (λ p q. valid_longest bytes m k p q u) (is_utf8 (take (suc m) bytes)) refl l h u

pub split_of : (bytes : List ℕ) → HasWholeCharacters bytes (take (characters_end bytes) bytes) (after_characters bytes)
unfolding utf8_valid_len
split_of bytes = record { parts = sym (take-append-drop (characters_end bytes) bytes); text = valid_prefix bytes (length bytes); no_char = none }
  where
    none : StartsWithNoChar (after_characters bytes)
    none c rest s e =
        let end = characters_end bytes in
        let within = utf8_valid_len_le bytes in
        let some = encode_some c in
        let n = length (encode c) in
        let fits : end + n ≤ length bytes = omega (arith, length-drop end bytes, ap length e, length-append (encode c) rest) in
        let whole : take (end + n) bytes ≡ take end bytes ++ encode c = take-add end n bytes ∙ ap (λ l. take end bytes ++ l) (ap (take n) e ∙ take_at (encode c) rest n refl) in
        valid_longest bytes (length bytes) (end + n) (omega arith) fits
        (is_utf8-from_IsUtf8 _ (subst IsUtf8 (sym whole) (IsUtf8-append _ _ (valid_prefix bytes (length bytes)) (IsUtf8-encode c s))))

-- ---- offsets

pub with_offsets-append : (from : ℕ) (cs ds : List ℕ) → with_offsets from (cs ++ ds) ≡ with_offsets from cs ++ with_offsets (from + length (encodes cs)) ds
with_offsets-append from [] ds = ap (λ n. with_offsets n ds) (sym (add-zero from))
with_offsets-append from (c ∷ cs) ds =
    let n : from + len_utf8 c + length (encodes cs) ≡ from + length (encodes (c ∷ cs)) = omega (arith, length-append (encode c) (encodes cs), length-encode c) in
    ap (λ l. (c, from) ∷ l) (with_offsets-append (from + len_utf8 c) cs ds ∙ ap (λ k. with_offsets (from + len_utf8 c) cs ++ with_offsets k ds) n)

-- ---- bytes after whole characters

pub after_text : (whole bytes : List ℕ) → IsUtf8 whole → HasWholeCharacters (whole ++ bytes) (whole ++ take (characters_end bytes) bytes) (after_characters bytes)
after_text whole bytes u =
    let s = split_of bytes in
    record { parts = ap (λ l. whole ++ l) s.parts ∙ sym (append_assoc whole _ _); text = IsUtf8-append _ _ u s.text; no_char = s.no_char }

pub characters_from-append : (from : ℕ) (whole bytes : List ℕ) → IsUtf8 whole
    → characters_from from (whole ++ bytes) ≡ with_offsets from (chars whole) ++ characters_from (from + length whole) bytes
characters_from-append from whole bytes u =
    let s = split_of bytes in
    Split-characters _ _ _ (after_text whole bytes u) from
    ∙ ap (λ cs. with_offsets from cs) (chars-append _ _ u)
    ∙ with_offsets-append from (chars whole) _
    ∙ ap (λ w. with_offsets from (chars whole) ++ with_offsets (from + length w) (chars (take (characters_end bytes) bytes))) (encodes-chars whole u)

pub split_whole : (whole : List ℕ) → IsUtf8 whole → HasWholeCharacters whole whole []
split_whole whole u = record { parts = sym (append-nil whole); text = u; no_char = no_char_nil }

pub characters_from-encode : (from c : ℕ) → IsScalar c → characters_from from (encode c) ≡ (c, from) ∷ []
characters_from-encode from c s =
    let one : chars (encode c) ≡ c ∷ [] = ap chars (sym (append-nil (encode c))) ∙ chars-encodes (c ∷ []) (ap (λ b. b && true) s) in
    Split-characters _ _ _ (split_whole (encode c) (IsUtf8-encode c s)) from ∙ ap (λ cs. with_offsets from cs) one

-- ---- a text

pub text_prefix : (bytes : List ℕ) → IsUtf8 bytes → take (characters_end bytes) bytes ≡ bytes
text_prefix bytes u = Split-prefix _ _ _ (split_whole bytes u)

pub text_fault : (bytes : List ℕ) → IsUtf8 bytes → first_fault bytes ≡ None
text_fault bytes u = rw (eq-eqb _ _ (Split-end _ _ _ (split_whole bytes u)))

pub fault_within : (bytes : List ℕ) (n : ℕ) → n ≡ characters_end bytes → n < length bytes → first_fault bytes ≡ Some (characters_end bytes)
fault_within bytes n is within = rw (ne_eqb (characters_end bytes) (length bytes) (λ whole. absurd (omega (arith, is, within, whole))))

-- ---- a text before bytes

module _ (text bytes : List ℕ) (u : IsUtf8 text) where
  pub end_after : characters_end (text ++ bytes) ≡ length text + characters_end bytes
  end_after =
      omega (arith, Split-end _ _ _ (after_text text bytes u), length-append text (take (characters_end bytes) bytes), Split-end _ _ _ (split_of bytes))

  pub rest_after : after_characters (text ++ bytes) ≡ after_characters bytes
  rest_after = Split-after _ _ _ (after_text text bytes u)

  pub fault_after : first_fault (text ++ bytes) ≡ option_map (λ at. length text + at) (first_fault bytes)
  fault_after =
      let long = length-append text bytes in
      elim (cases_eq (characters_end bytes) (length bytes)) [
        | inl e ↦ rw (eq-eqb _ _ e, eq-eqb (characters_end (text ++ bytes)) (length (text ++ bytes)) (omega (arith, end_after)))
        | inr n ↦ rw (ne_eqb _ _ n, ne_eqb (characters_end (text ++ bytes)) (length (text ++ bytes)) (omega (arith, end_after)), end_after)
      ]

pub characters_after : (from : ℕ) (text bytes : List ℕ) → IsUtf8 text
    → characters_from from (text ++ bytes) ≡ characters_from from text ++ characters_from (from + length text) bytes
characters_after from text bytes u =
    characters_from-append from text bytes u
    ∙ ap (λ cs. cs ++ characters_from (from + length text) bytes) (sym (Split-characters _ _ _ (split_whole text u) from))

pub longest : (bytes : List ℕ) (n : ℕ) → n ≤ length bytes → IsUtf8 (take n bytes) → n ≤ characters_end bytes
unfolding utf8_valid_len
longest bytes n l u = elim (cases_lt (characters_end bytes) n) [
  | inl more ↦ absurd (valid_longest bytes (length bytes) n more l (is_utf8-from_IsUtf8 _ u))
  | inr h ↦ h
]
