-- What stands before the first fault is a good text.
use Rattle.std.specs.Str.{chars, IsUtf8, all_scalars}
use Rattle.std.specs.Char.{len_utf8, encode_utf8}
use Rattle.std.specs.Prelude.{encode_utf8_all}
use Rattle.std.proofs.Common.{◌≡◌, ℕ, ◌+◌, ◌≤◌, true, ◌&&◌, nat_lt, List, [], ◌∷◌, ◌++◌, length, take, drop, Option, Some, None, sym, ◌∙◌, ap, subst, arith, refl, ◌⊎◌, inl, inr}
use Rattle.std.proofs.lemmas.Bool.{cases_Bool, and_parts}
use Rattle.std.proofs.lemmas.List.{length-append, length-take, take-append-drop, take-append-le, take_all, append_assoc}
use Rattle.std.proofs.lemmas.Str.{encodes-chars, chars-encodes, scalars-chars}
use Rattle.std.proofs.Math.Seq.{take-append_seam}
use Rattle.std.proofs.Math.Utf8.{scalar}
use Rattle.utf8_cut.specs.Characters.{characters_end, is_utf8_prefix}
use Rattle.nfd_points.specs.Points.{decomposition, byte_len}
use Rattle.nfd_points.specs.PointFaults.{fault_of_code_point, fault_from, run_after, point_fault}
use Rattle.collation_matches.specs.declared.faults.TextFault.{TextFault}
use Rattle.collation_matches.specs.declared.faults.TheConstants.TextFault.{ILL_FORMED, TOO_LONG}
use Rattle.collation_table.specs.Table.{TableMap}
use Rattle.collation_elements.specs.declared.settings.Variable.{Variable}
use Rattle.collation_elements.specs.declared.settings.Strength.{Strength}
use Rattle.collation_matches.specs.Answer.{Answer, answer, answer_at}
use Rattle.collation_matches.specs.Matches.{matches, settled}
use Rattle.collation_matches.specs.GoodPrefix.{most_bytes, seen, whole, byte_fault, first_of, fault, good_prefix, prefix_at}
use Rattle.collation_matches.proofs.TextCheckLemmas.{byte_len_encoded}

-- the code points before the one at fault
pub record HasGoodPrefix (start run : ℕ) (cs : List ℕ) (at : ℕ × ℕ) : Type 0 where
  pub good_prefix : List ℕ
  pub rest : List ℕ
  pub parts : cs ≡ good_prefix ++ rest
  pub offset : at.0 ≡ start + byte_len good_prefix
  pub good : fault_from start run good_prefix ≡ None

pub fault_here : (start run c kind : ℕ) (cs : List ℕ) → fault_of_code_point run c ≡ Some kind → fault_from start run (c ∷ cs) ≡ Some (start, kind)
unfolding fault_from
fault_here start run c kind cs e = rw (e, fault_from) refl

pub fault_later : (start run c : ℕ) (cs : List ℕ) → fault_of_code_point run c ≡ None → fault_from start run (c ∷ cs) ≡ fault_from (start + len_utf8 c) (run_after run (decomposition c)) cs
unfolding fault_from
fault_later start run c cs e = rw (e, fault_from) refl

before_next : (start run c : ℕ) (cs : List ℕ) (at : ℕ × ℕ) → fault_of_code_point run c ≡ None → HasGoodPrefix (start + len_utf8 c) (run_after run (decomposition c)) cs at → HasGoodPrefix start run (c ∷ cs) at
unfolding byte_len
before_next start run c cs at e b = record {
  good_prefix = c ∷ b.good_prefix;
  rest = b.rest;
  parts = ap (λ t. c ∷ t) b.parts;
  offset = let here = b.offset in omega arith;
  good = fault_later start run c b.good_prefix e ∙ b.good;
}

pub no_fault : (start run : ℕ) → fault_from start run [] ≡ None
unfolding fault_from
no_fault start run = refl

none_before : (start : ℕ) → start ≡ start + byte_len []
unfolding byte_len
none_before start = omega arith

pub either : {X : Type 0} → (o : Option X) → (o ≡ None) ⊎ ((x : X) × (o ≡ Some x))
either None = inl refl
either (Some x) = inr (x, refl)

pub before_fault : (start run : ℕ) (cs : List ℕ) (at : ℕ × ℕ) → fault_from start run cs ≡ Some at → HasGoodPrefix start run cs at
before_fault start run [] at h = let none = no_fault start run in cc
before_fault start run (c ∷ cs) at h =
    elim (either (fault_of_code_point run c)) [
      | inl e ↦ before_next start run c cs at e (before_fault (start + len_utf8 c) (run_after run (decomposition c)) cs at (sym (fault_later start run c cs e) ∙ h))
      | inr some ↦
          let reported = sym (fault_here start run c some.0 cs some.1) ∙ h in
          let pair : (start, some.0) ≡ at = cc in
          record { good_prefix = []; rest = c ∷ cs; parts = refl; offset = sym (ap (λ p. p.0) pair) ∙ none_before start; good = no_fault start run }
    ]

-- ---- texts

pub scalars_prefix : (xs ys : List ℕ) → all_scalars (xs ++ ys) ≡ true → all_scalars xs ≡ true
scalars_prefix [] ys h = refl
scalars_prefix (x ∷ xs) ys h =
    let parts = and_parts (scalar x) (all_scalars (xs ++ ys)) h in
    let rest = scalars_prefix xs ys parts.1 in
    let first = parts.0 in rw (first, rest) refl

pub encoded-append : (xs ys : List ℕ) → encode_utf8_all (xs ++ ys) ≡ encode_utf8_all xs ++ encode_utf8_all ys
encoded-append [] ys = refl
encoded-append (x ∷ xs) ys = ap (λ t. encode_utf8 x ++ t) (encoded-append xs ys) ∙ sym (append_assoc (encode_utf8 x) (encode_utf8_all xs) (encode_utf8_all ys))

-- a good text, and how much of the bytes it is
pub record IsGoodPrefix (bytes good : List ℕ) (end : ℕ) : Type 0 where
  pub taken : take end bytes ≡ good
  pub within : end ≤ length bytes
  pub text : IsUtf8 good
  pub sound : point_fault (chars good) ≡ None

-- the part of a text before a code point at fault
prefix_of_text : (text : List ℕ) (at : ℕ × ℕ) → IsUtf8 text → point_fault (chars text) ≡ Some at → (good : List ℕ) × IsGoodPrefix text good at.0
prefix_of_text text at utf8 h =
    let b = before_fault 0 0 (chars text) at h in
    let good = encode_utf8_all b.good_prefix in
    let scalars = scalars_prefix b.good_prefix b.rest (ap all_scalars (sym b.parts) ∙ scalars-chars text utf8) in
    let parts : text ≡ good ++ encode_utf8_all b.rest = sym (encodes-chars text utf8) ∙ ap encode_utf8_all b.parts ∙ encoded-append b.good_prefix b.rest in
    let end : at.0 ≡ length good = let o = b.offset in let n = byte_len_encoded b.good_prefix in omega arith in
    let sum = ap length parts ∙ length-append good (encode_utf8_all b.rest) in (
      good,
      record {
        taken = ap (λ n. take n text) end ∙ ap (take (length good)) parts ∙ take-append_seam good (encode_utf8_all b.rest);
        within = omega arith;
        text = (b.good_prefix, (scalars, refl));
        sound = ap point_fault (chars-encodes b.good_prefix scalars) ∙ b.good;
      },
    )

-- a prefix of a prefix
pub take_within : (n m : ℕ) (xs : List ℕ) → n ≤ length (take m xs) → take n (take m xs) ≡ take n xs
take_within n m xs h =
    let whole = sym (take-append-drop m xs) in
    sym (ap (take n) whole ∙ take-append-le n (take m xs) (drop m xs) h)

whole_prefix : (bytes : List ℕ) (m : ℕ) (good : List ℕ) (end : ℕ) → IsGoodPrefix (take m bytes) good end → IsGoodPrefix bytes good end
whole_prefix bytes m good end g = record {
  taken = sym (take_within end m bytes g.within) ∙ g.taken;
  within = let short = length-take m bytes in let inside = g.within in omega arith;
  text = g.text;
  sound = g.sound;
}

abbrev pub TextLaw : Type 0
TextLaw = (bytes : List ℕ) → IsUtf8 (take (characters_end bytes) bytes)

abbrev pub WithinLaw : Type 0
WithinLaw = (bytes : List ℕ) → characters_end bytes ≤ length bytes

-- where a byte is at fault, it stands at the end of the whole characters
pub offset_of : (f at : TextFault) → Some f ≡ Some at → f.offset ≡ at.offset
offset_of f at h = let same : f ≡ at = cc in ap (λ t. t.offset) same

pub byte_fault_at : (bytes : List ℕ) (at : TextFault) → byte_fault bytes ≡ Some at → at.offset ≡ characters_end (seen bytes)
byte_fault_at bytes at h =
    elim (cases_Bool (nat_lt most_bytes (length bytes) && is_utf8_prefix (seen bytes))) [
      | inl e ↦ let some : Some (record { kind = TOO_LONG; offset = characters_end (seen bytes) }) ≡ Some at = rw e at h in sym (offset_of (record { kind = TOO_LONG; offset = characters_end (seen bytes) }) at some)
      | inr e ↦ elim (cases_Bool (nat_lt (characters_end (seen bytes)) (length (seen bytes)))) [
        | inl f ↦ let some : Some (record { kind = ILL_FORMED; offset = characters_end (seen bytes) }) ≡ Some at = rw (e, f) at h in sym (offset_of (record { kind = ILL_FORMED; offset = characters_end (seen bytes) }) at some)
        | inr f ↦ let none : None ≡ Some at = rw (e, f) at h in cc
      ]
    ]

-- What stands before the first fault is a good text.
pub good_prefix_found : TextLaw → WithinLaw → (bytes : List ℕ) (at : TextFault) → fault bytes ≡ Some at → (good : List ℕ) × IsGoodPrefix bytes good at.offset
good_prefix_found text_law within_law bytes at h =
    elim (either (point_fault (chars (whole (seen bytes))))) [
      | inl none ↦
          let here : byte_fault bytes ≡ Some at = sym (ap (λ o. first_of o (byte_fault bytes)) none) ∙ h in
          let offset = byte_fault_at bytes at here in
          let good : IsGoodPrefix (seen bytes) (whole (seen bytes)) at.offset = record {
            taken = ap (λ n. take n (seen bytes)) offset;
            within = let inside = within_law (seen bytes) in omega arith;
            text = text_law (seen bytes);
            sound = none;
          } in
          (whole (seen bytes), whole_prefix bytes most_bytes (whole (seen bytes)) at.offset good)
      | inr some ↦
          let reported : Some (record { kind = some.0.1; offset = some.0.0 }) ≡ Some at = sym (ap (λ o. first_of o (byte_fault bytes)) some.1) ∙ h in
          let offset = offset_of (record { kind = some.0.1; offset = some.0.0 }) at reported in
          let good_prefix = prefix_of_text (whole (seen bytes)) some.0 (text_law (seen bytes)) some.1 in
          let inner = whole_prefix (seen bytes) (characters_end (seen bytes)) good_prefix.0 some.0.0 good_prefix.1 in
          let outer = whole_prefix bytes most_bytes good_prefix.0 some.0.0 inner in
          (good_prefix.0, subst (λ n. IsGoodPrefix bytes good_prefix.0 n) offset outer)
    ]

-- ---- answers

pub answer_good : (table : TableMap) (strength : Strength) (variable : Variable) (pattern bytes : List ℕ) (ranges : List (ℕ × ℕ)) →
    None ≡ fault bytes → ranges ≡ matches table strength variable pattern bytes → answer table strength variable pattern bytes ≡ record { ranges = ranges; fault = None }
answer_good table strength variable pattern bytes ranges none same =
    ap (answer_at table strength variable pattern bytes) (sym none) ∙ ap (λ (rs : List (ℕ × ℕ)). let a : Answer = record { ranges = rs; fault = None } in a) (sym same)

pub answer_bad : (table : TableMap) (strength : Strength) (variable : Variable) (pattern bytes : List ℕ) (ranges : List (ℕ × ℕ)) (at : TextFault) →
    Some at ≡ fault bytes → ranges ≡ settled table strength variable pattern (take at.offset bytes) → answer table strength variable pattern bytes ≡ record { ranges = ranges; fault = Some at }
answer_bad table strength variable pattern bytes ranges at some same =
    let here : good_prefix bytes ≡ take at.offset bytes = ap (prefix_at bytes) (sym some) in
    ap (answer_at table strength variable pattern bytes) (sym some) ∙ ap (λ (rs : List (ℕ × ℕ)). let a : Answer = record { ranges = rs; fault = Some at } in a) (ap (settled table strength variable pattern) here ∙ sym same)

-- a text is its own whole characters
pub whole_of_text : (longest : (bytes : List ℕ) (n : ℕ) → n ≤ length bytes → IsUtf8 (take n bytes) → n ≤ characters_end bytes) (good : List ℕ) → IsUtf8 good → whole good ≡ good
whole_of_text longest good utf8 =
    let all = take_all (length good) good (omega arith) in
    take_all (characters_end good) good (longest good (length good) (omega arith) (subst IsUtf8 (sym all) utf8))
