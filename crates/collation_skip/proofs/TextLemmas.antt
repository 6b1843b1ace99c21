-- The last character of a text at the front of a piece.
use Rattle.std.specs.Char.{len_utf8, encode_utf8}
use Rattle.std.specs.Str.{all_scalars, chars, IsUtf8}
use Rattle.std.specs.Prelude.{encode_utf8_all}
use Rattle.std.proofs.Common.{◌≡◌, ◌∙◌, ℕ, ◌+◌, ◌≤◌, Bool, true, ◌&&◌, List, [], ◌∷◌, ◌++◌, length, take, drop, inl, inr, refl, sym, ap, ap₂, arith, append_assoc, length-append}
use Rattle.std.proofs.lemmas.Bool.{and_parts, cases_lt}
use Rattle.std.proofs.Math.Seq.{take-add}
use Rattle.std.proofs.lemmas.List.{append-nil, length-take-le, take_at, take-take, drop_at, take-append-drop}
use Rattle.std.proofs.lemmas.Str.{length-encode, encodes-chars, scalars-chars, chars_from_encodes, cons_from_encodes}
use Rattle.utf8_cut.specs.Sequences.{SpellsCharacter}
use Rattle.nfd_points.specs.Points.{byte_len}
use Rattle.nfd_points.proofs.ByteLenLemmas.{byte_len_encoded}

all-append : (xs ys : List ℕ) → encode_utf8_all (xs ++ ys) ≡ encode_utf8_all xs ++ encode_utf8_all ys
all-append [] ys = refl
all-append (x ∷ xs) ys = ap (λ (l : List ℕ). encode_utf8 x ++ l) (all-append xs ys) ∙ sym (append_assoc (encode_utf8 x) (encode_utf8_all xs) (encode_utf8_all ys))

scalars-parts : (xs ys : List ℕ) → all_scalars (xs ++ ys) ≡ true → (all_scalars xs ≡ true) × (all_scalars ys ≡ true)
scalars-parts [] ys h = (refl, h)
scalars-parts (x ∷ xs) ys h =
    let parts = and_parts _ (all_scalars (xs ++ ys)) h in
    let rest = scalars-parts xs ys parts.1 in (ap₂ (λ (a b : Bool). a && b) parts.0 rest.0, rest.1)

-- the text without its last character, and where this stands
pub record IsCutBeforeLast (piece : List ℕ) (at : ℕ) (before : List ℕ) (last : ℕ) : Type 0 where
  pub end : at ≡ byte_len before + len_utf8 last
  pub is_text : IsUtf8 (take (byte_len before) piece)
  pub characters : chars (take (byte_len before) piece) ≡ before
  pub spelled : SpellsCharacter (take (len_utf8 last) (drop (byte_len before) piece)) last

pub cut-last : (piece : List ℕ) (at : ℕ) (before : List ℕ) (last : ℕ) → at ≤ length piece → IsUtf8 (take at piece) → chars (take at piece) ≡ before ++ last ∷ [] → IsCutBeforeLast piece at before last
cut-last piece at before last within text are =
    let E = encode_utf8_all before in
    let n = byte_len before in
    let m = len_utf8 last in
    let front_long : length E ≡ n = sym (byte_len_encoded before) in
    let whole : take at piece ≡ E ++ encode_utf8 last =
    sym (encodes-chars (take at piece) text) ∙ ap encode_utf8_all are ∙ all-append before (last ∷ []) ∙ ap (λ (l : List ℕ). E ++ l) (append-nil (encode_utf8 last)) in
    let end : at ≡ n + m = let long = ap length whole in omega (arith, length-take-le at piece within, long, length-append E (encode_utf8 last), front_long, length-encode last) in
    let parts : take n piece ++ take m (drop n piece) ≡ E ++ encode_utf8 last = sym (take-add n m piece) ∙ ap (λ k. take k piece) (sym end) ∙ whole in
    let long : length (take n piece) ≡ n = length-take-le n piece (omega (arith, end, within)) in
    let first : take n piece ≡ E = sym (take_at (take n piece) (take m (drop n piece)) n long) ∙ ap (take n) parts ∙ take_at E (encode_utf8 last) n front_long in
    let second : take m (drop n piece) ≡ encode_utf8 last = sym (drop_at (take n piece) (take m (drop n piece)) n long) ∙ ap (drop n) parts ∙ drop_at E (encode_utf8 last) n front_long in
    let scalars = scalars-parts before (last ∷ []) (ap all_scalars (sym are) ∙ scalars-chars (take at piece) text) in
    let is_text : IsUtf8 (take n piece) = (before, (scalars.0, sym first)) in
    record {
      end = end;
      is_text = is_text;
      characters = sym (chars_from_encodes before (take n piece) is_text (sym first));
      spelled = ((and_parts _ true scalars.1).0, second);
    }

-- two characters that are read at one place are one
pub same-character : (bytes : List ℕ) (c d : ℕ) → SpellsCharacter (take (len_utf8 c) bytes) c → SpellsCharacter (take (len_utf8 d) bytes) d → d ≡ c
same-character bytes c d one other = elim (cases_lt (len_utf8 c) (len_utf8 d)) [
  | inl longer ↦ sym (same d c other one (omega (arith, longer)))
  | inr shorter ↦ same c d one other shorter
]
  where
    same : (c d : ℕ) → SpellsCharacter (take (len_utf8 c) bytes) c → SpellsCharacter (take (len_utf8 d) bytes) d → len_utf8 d ≤ len_utf8 c → d ≡ c
    same c d one other within =
        let front = take (len_utf8 c) bytes in
        let here : take (len_utf8 d) front ≡ encode_utf8 d = take-take (len_utf8 d) (len_utf8 c) bytes within ∙ other.1 in
        let all : encode_utf8_all (c ∷ []) ≡ encode_utf8 d ++ drop (len_utf8 d) front =
        append-nil (encode_utf8 c) ∙ sym one.1 ∙ sym (take-append-drop (len_utf8 d) front) ∙ ap (λ (l : List ℕ). l ++ drop (len_utf8 d) front) here in
        let found = cons_from_encodes (c ∷ []) (drop (len_utf8 d) front) d all in
        let is = found.1 in cc
