-- Where a character stands in bytes: parts of them, and longer ones.
use Rattle.std.specs.Char.{IsScalar, len_utf8, encode_utf8}
use Rattle.std.specs.Str.{chars, IsUtf8, IsCharBoundary, StartsWithNoChar}
use Rattle.std.proofs.Common.{◌≡◌, ℕ, suc, ◌+◌, ◌-◌, ◌<◌, ◌≤◌, true, List, [], ◌∷◌, ◌++◌, length, take, drop, encode_utf8_all, refl, sym, ap, ap₂, ◌∙◌, subst, arith, append_assoc, length-append}
use Rattle.std.proofs.lemmas.Bool.{and_parts}
use Rattle.std.proofs.lemmas.List.{take-append-drop, take_at, drop_at, length-take, length-drop, length-take-le, take_all}
use Rattle.std.proofs.lemmas.Str.{length-encode, len_utf8_bounds, IsUtf8-encode, IsUtf8-take, IsUtf8-drop, IsCharBoundary-start, IsCharBoundary-from_rest, encodes-chars, scalars-chars, chars-append, chars_past_char}
use Rattle.std.proofs.Math.Seq.{take-append-add}
use Rattle.std.proofs.Math.Utf8.{scalar}
use Rattle.std.specs.Str.{all_scalars}
use Rattle.utf8_cut.specs.Sequences.{SpellsCharacter}
use Rattle.utf8_cut.specs.Characters.{characters, characters_from, with_offsets}
use Rattle.utf8_cut.proofs.CharactersLemmas.{characters_from-append}
use Rattle.utf8_cut.proofs.TextLemmas.{one_char}
use Rattle.nfd_points.specs.Points.{byte_len}
use Rattle.nfd_points.proofs.ByteLenLemmas.{byte_len_encoded}

-- the character c stands at an offset
pub record CharacterStandsAt (bytes : List ℕ) (at c : ℕ) : Type 0 where
  pub front : List ℕ
  pub back : List ℕ
  pub parts : bytes ≡ front ++ (encode_utf8 c ++ back)
  pub front_len : length front ≡ at
  pub scalar : IsScalar c

pub stands-from : (bytes : List ℕ) (at c : ℕ) → SpellsCharacter (take (len_utf8 c) (drop at bytes)) c → CharacterStandsAt bytes at c
stands-from bytes at c (s, e) =
    let rest = drop at bytes in
    let some = (len_utf8_bounds c).0 in
    let taken = ap (λ (l : List ℕ). length l) e in
    let inside : at ≤ length bytes = omega (arith, some, taken, length-encode c, length-take (len_utf8 c) rest, length-drop at bytes) in
    record {
      front = take at bytes;
      back = drop (len_utf8 c) rest;
      parts = sym (take-append-drop at bytes) ∙ ap (λ (t : List ℕ). take at bytes ++ t) (sym (take-append-drop (len_utf8 c) rest) ∙ ap (λ (t : List ℕ). t ++ drop (len_utf8 c) rest) e);
      front_len = length-take-le at bytes inside;
      scalar = s;
    }

pub stands-spells : (bytes : List ℕ) (at c : ℕ) → CharacterStandsAt bytes at c → SpellsCharacter (take (len_utf8 c) (drop at bytes)) c
stands-spells bytes at c s =
    let rest : drop at bytes ≡ encode_utf8 c ++ s.back = ap (drop at) s.parts ∙ drop_at s.front (encode_utf8 c ++ s.back) at s.front_len in
    (s.scalar, ap (take (len_utf8 c)) rest ∙ take_at (encode_utf8 c) s.back (len_utf8 c) (length-encode c))

pub stands-within : (bytes : List ℕ) (at c : ℕ) → CharacterStandsAt bytes at c → at < length bytes
stands-within bytes at c s =
    let some = (len_utf8_bounds c).0 in
    let front = s.front_len in
    omega (arith, some, front, length-encode c, ap (λ (l : List ℕ). length l) s.parts, length-append s.front (encode_utf8 c ++ s.back), length-append (encode_utf8 c) s.back)

-- in longer bytes
pub stands-amid : (before bytes after : List ℕ) (at c : ℕ) → CharacterStandsAt bytes at c → CharacterStandsAt (before ++ (bytes ++ after)) (length before + at) c
stands-amid before bytes after at c s =
    let front = s.front_len in
    let E = encode_utf8 c in
    record {
      front = before ++ s.front;
      back = s.back ++ after;
      parts =
          ap (λ (t : List ℕ). before ++ (t ++ after)) s.parts
          ∙ ap (λ (t : List ℕ). before ++ t) (append_assoc s.front (E ++ s.back) after ∙ ap (λ (t : List ℕ). s.front ++ t) (append_assoc E s.back after))
          ∙ sym (append_assoc before s.front (E ++ (s.back ++ after)));
      front_len = omega (arith, front, length-append before s.front);
      scalar = s.scalar;
    }

-- ---- the first character of bytes

abbrev first_or : ℕ → List (ℕ × ℕ) → ℕ
first_or d [] = d
first_or d (x ∷ xs) = x.0

first-is : (c : ℕ) (rest : List ℕ) → IsScalar c → first_or 0 (characters (encode_utf8 c ++ rest)) ≡ c
first-is c rest s =
    let whole = one_char (encode_utf8 c) c (s, refl) in
    ap (first_or 0) (characters_from-append 0 (encode_utf8 c) rest (IsUtf8-encode c s)
    ∙ ap (λ (cs : List ℕ). with_offsets 0 cs ++ characters_from (0 + length (encode_utf8 c)) rest) whole.1)

pub same-first : (c d : ℕ) (xs ys : List ℕ) → IsScalar c → IsScalar d → encode_utf8 c ++ xs ≡ encode_utf8 d ++ ys → c ≡ d
same-first c d xs ys s t e = sym (first-is c xs s) ∙ ap (λ (bytes : List ℕ). first_or 0 (characters bytes)) e ∙ first-is d ys t

-- two characters that stand at an offset are one
pub stands-same : (bytes rest : List ℕ) (at c d : ℕ) → rest ≡ drop at bytes → SpellsCharacter (take (len_utf8 c) rest) c → SpellsCharacter (take (len_utf8 d) (drop at bytes)) d → c ≡ d
stands-same bytes rest at c d is spelled other =
    let s = stands-from bytes at c (subst (λ (l : List ℕ). SpellsCharacter (take (len_utf8 c) l) c) is spelled) in
    let t = stands-from bytes at d other in
    let here : drop at bytes ≡ encode_utf8 c ++ s.back = ap (drop at) s.parts ∙ drop_at s.front (encode_utf8 c ++ s.back) at s.front_len in
    let there : drop at bytes ≡ encode_utf8 d ++ t.back = ap (drop at) t.parts ∙ drop_at t.front (encode_utf8 d ++ t.back) at t.front_len in
    same-first c d s.back t.back s.scalar t.scalar (sym here ∙ there)

-- ---- texts

-- the code points of a text before the character, and those behind it
pub record StandsInText (text : List ℕ) (at c : ℕ) : Type 0 where
  pub before : List ℕ
  pub more : List ℕ
  pub text_is : chars text ≡ before ++ c ∷ more
  pub offset : byte_len before ≡ at

starts-char : (xs rest : List ℕ) (k : ℕ) → 1 ≤ length xs → IsCharBoundary xs 0 → IsCharBoundary (take (suc k) (xs ++ rest)) 0
starts-char [] rest k some b = absurd (omega (arith, some))
starts-char (x ∷ xs) rest k some b = (omega arith, λ l h. b.1 (omega arith) h)

module _ (text : List ℕ) (at c : ℕ) (utf8 : IsUtf8 text) (s : CharacterStandsAt text at c) where
  abbrev E : List ℕ
  E = encode_utf8 c

  rest-is : drop at text ≡ E ++ s.back
  rest-is = ap (drop at) s.parts ∙ drop_at s.front (E ++ s.back) at s.front_len

  begins-char : IsCharBoundary text at
  begins-char =
      let inside = stands-within text at c s in
      let some = (len_utf8_bounds c).0 in
      let all : take (suc (length (E ++ s.back))) (E ++ s.back) ≡ E ++ s.back = take_all (suc (length (E ++ s.back))) (E ++ s.back) (omega arith) in
      let there = starts-char E s.back (length (E ++ s.back)) (omega (arith, some, length-encode c)) (IsCharBoundary-start E (IsUtf8-encode c s.scalar)) in
      let here = subst (λ (t : List ℕ). IsCharBoundary t 0) (all ∙ sym rest-is) there in
      let sum : at + 0 ≡ at = omega arith in
      subst (IsCharBoundary text) sum (IsCharBoundary-from_rest text at 0 (omega (arith, inside)) here)

  pub stands-in_text : StandsInText text at c
  stands-in_text =
      let inside = stands-within text at c s in
      let front = IsUtf8-take text at utf8 begins-char in
      let rest = IsUtf8-drop text at utf8 begins-char in
      record {
        before = chars (take at text);
        more = chars s.back;
        text_is = ap chars (sym (take-append-drop at text)) ∙ chars-append (take at text) (drop at text) front ∙ ap (λ (cs : List ℕ). chars (take at text) ++ cs) (chars_past_char (drop at text) s.back c rest rest-is);
        offset = byte_len_encoded (chars (take at text)) ∙ ap (λ (l : List ℕ). length l) (encodes-chars (take at text) front) ∙ length-take-le at text (omega (arith, inside));
      }

-- ---- a text that bytes begin with

record Begun (text : List ℕ) : Type 0 where
  d : ℕ
  more : List ℕ
  is : text ≡ encode_utf8 d ++ more
  scalar : IsScalar d

begun-chars : (text : List ℕ) (cs : List ℕ) → encode_utf8_all cs ≡ text → all_scalars cs ≡ true → 1 ≤ length text → Begun text
begun-chars text [] e h some = absurd (omega (arith, some, ap (λ (l : List ℕ). length l) e))
begun-chars text (d ∷ cs) e h some = record { d = d; more = encode_utf8_all cs; is = sym e; scalar = (and_parts (scalar d) (all_scalars cs) h).0 }

-- the character stands in the text too, where it begins there
pub stands-prefix : (bytes text : List ℕ) (n at c : ℕ) → take n bytes ≡ text → n ≤ length bytes → IsUtf8 text → at < length text → CharacterStandsAt bytes at c → CharacterStandsAt text at c
stands-prefix bytes text n at c taken within utf8 upto s =
    let E = encode_utf8 c in
    let front_len = s.front_len in
    let len : length text ≡ n = sym (ap (λ (l : List ℕ). length l) taken) ∙ length-take-le n bytes within in
    let k = n - at - 1 in
    let sum : n ≡ length s.front + suc k = omega (arith, upto, len, front_len) in
    let G = take (suc k) (E ++ s.back) in
    let parts : text ≡ s.front ++ G = sym taken ∙ ap₂ (λ m (t : List ℕ). take m t) sum s.parts ∙ take-append-add s.front (E ++ s.back) (suc k) in
    let rest : drop at text ≡ G = ap (drop at) parts ∙ drop_at s.front G at s.front_len in
    let some = (len_utf8_bounds c).0 in
    let there = starts-char E s.back k (omega (arith, some, length-encode c)) (IsCharBoundary-start E (IsUtf8-encode c s.scalar)) in
    let zero_sum : at + 0 ≡ at = omega arith in
    let begins = subst (IsCharBoundary text) zero_sum (IsCharBoundary-from_rest text at 0 (omega (arith, upto)) (subst (λ (t : List ℕ). IsCharBoundary t 0) (sym rest) there)) in
    let own : IsUtf8 G = subst IsUtf8 rest (IsUtf8-drop text at utf8 begins) in
    let long : 1 ≤ length G = omega (arith, upto, front_len, ap (λ (l : List ℕ). length l) parts, length-append s.front G) in
    let b = begun-chars G (chars G) (encodes-chars G own) (scalars-chars G own) long in
    let whole : E ++ s.back ≡ encode_utf8 b.d ++ (b.more ++ drop (suc k) (E ++ s.back)) =
    sym (take-append-drop (suc k) (E ++ s.back)) ∙ ap (λ (t : List ℕ). t ++ drop (suc k) (E ++ s.back)) b.is ∙ append_assoc (encode_utf8 b.d) b.more (drop (suc k) (E ++ s.back)) in
    let same = same-first c b.d s.back (b.more ++ drop (suc k) (E ++ s.back)) s.scalar b.scalar whole in
    record {
      front = s.front;
      back = b.more;
      parts = parts ∙ ap (λ (t : List ℕ). s.front ++ t) (b.is ∙ ap (λ d. encode_utf8 d ++ b.more) (sym same));
      front_len = s.front_len;
      scalar = s.scalar;
    }

-- no character stands where none begins
pub spelled-none : (bytes rest : List ℕ) (at c : ℕ) → rest ≡ drop at bytes → SpellsCharacter (take (len_utf8 c) (drop at bytes)) c → StartsWithNoChar rest → ⊥
spelled-none bytes rest at c is spelled none =
    let s = stands-from bytes at c spelled in
    none c s.back s.scalar (is ∙ ap (drop at) s.parts ∙ drop_at s.front (encode_utf8 c ++ s.back) at s.front_len)
