-- Faults and open texts, from what a cutter of characters and a reorderer represent.
use Rattle.std.specs.Str.{chars, IsUtf8}
use Rattle.std.specs.Char.{len_utf8}
use Rattle.std.proofs.Common.{◌≡◌, ℕ, suc, ◌+◌, ◌-◌, ◌<◌, ◌≤◌, true, false, ◌&&◌, ◌==◌, cond, nat_lt, nat_le, Result, Ok, Err, OnOk, IfErr, subst, List, [], ◌∷◌, ◌++◌, length, take, drop, get_or, map, Option, Some, None, is_none, inl, inr, sym, ◌∙◌, ap, arith, refl}
use Rattle.std.proofs.lemmas.Bool.{cases_Bool, and_parts, and_right, ltb-false, leb-true, lt-ltb, le-ltb, le-leb, eqb-true, eqb-false}
use Rattle.std.proofs.lemmas.List.{take_all, map-append, append-nil, length-append, length-take-le, append_assoc}
use Rattle.std.proofs.lemmas.Str.{encodes-chars}
use Rattle.std.proofs.Math.Seq.{take-append-add, split_at}
use Rattle.utf8_cut.specs.Characters.{characters, characters_end, with_offsets, first_fault, ill_formed_at, is_utf8_prefix}
use Rattle.nfd_points.specs.Points.{byte_len}
pub use Rattle.nfd_points.proofs.ByteLenLemmas.{byte_len_encoded}
use Rattle.nfd_points.specs.PointFaults.{point_fault}
use Rattle.collation_matches.specs.declared.faults.TextFault.{TextFault}
use Rattle.collation_matches.specs.declared.faults.TheConstants.TextFault.{ILL_FORMED, TOO_LONG}
use Rattle.collation_matches.specs.GoodPrefix.{most_bytes, seen, whole, byte_fault, first_of, fault, is_good_so_far}

-- ---- characters

with_offsets_codes : (from : ℕ) (cs : List ℕ) → map (λ (c : ℕ × ℕ). c.0) (with_offsets from cs) ≡ cs
with_offsets_codes from [] = refl
with_offsets_codes from (c ∷ cs) = ap (λ t. c ∷ t) (with_offsets_codes (from + len_utf8 c) cs)

-- the code points of the whole characters
pub codes_whole : (bytes : List ℕ) → map (λ (c : ℕ × ℕ). c.0) (characters bytes) ≡ chars (whole bytes)
codes_whole bytes = with_offsets_codes 0 (chars (whole bytes))

-- ---- what may be looked at

pub seen_short : (bytes : List ℕ) → length bytes ≤ most_bytes → seen bytes ≡ bytes
seen_short bytes h = take_all most_bytes bytes h

-- of bytes with others after them, those that may be looked at begin with them
pub seen_prefix : (bytes more : List ℕ) → length bytes ≤ most_bytes → seen (bytes ++ more) ≡ bytes ++ take (most_bytes - length bytes) more
seen_prefix bytes more h =
    let parts : most_bytes ≡ length bytes + (most_bytes - length bytes) = omega arith in
    ap (λ n. take n (bytes ++ more)) parts ∙ take-append-add bytes more (most_bytes - length bytes)

-- ---- open texts

pub open_short : (u : List ℕ) → is_good_so_far u ≡ true → length u ≤ most_bytes
open_short u h = leb-true (length u) most_bytes (and_parts _ _ (and_parts (nat_le (length u) most_bytes && is_utf8_prefix u) (is_none (point_fault (chars (whole u)))) h).0).0

none_from : {X : Type 0} → (o : Option X) → is_none o ≡ true → o ≡ None
none_from None h = refl
none_from (Some x) h = cc

pub open_good : (u : List ℕ) → is_good_so_far u ≡ true → point_fault (chars (whole u)) ≡ None
open_good u h = none_from (point_fault (chars (whole u))) (and_parts (nat_le (length u) most_bytes && is_utf8_prefix u) (is_none (point_fault (chars (whole u)))) h).1

pub open_cut : (u : List ℕ) → is_good_so_far u ≡ true → is_utf8_prefix u ≡ true
open_cut u h = (and_parts (nat_le (length u) most_bytes) (is_utf8_prefix u) (and_parts (nat_le (length u) most_bytes && is_utf8_prefix u) (is_none (point_fault (chars (whole u)))) h).0).1

pub open_from : (u : List ℕ) → length u ≤ most_bytes → is_utf8_prefix u ≡ true → point_fault (chars (whole u)) ≡ None → is_good_so_far u ≡ true
open_from u short cut good = let a = le-leb (length u) most_bytes short in rw (a, cut, good) refl

not_formed : (bytes : List ℕ) → ill_formed_at bytes ≡ None → is_utf8_prefix bytes ≡ true
not_formed bytes h = elim (cases_Bool (is_utf8_prefix bytes)) [ inl o ↦ o | inr o ↦ let some : Some (characters_end bytes) ≡ None = rw o at h in cc ]

formed : (bytes : List ℕ) (at : ℕ) → ill_formed_at bytes ≡ Some at → (is_utf8_prefix bytes ≡ false) × (characters_end bytes ≡ at)
formed bytes at h = elim (cases_Bool (is_utf8_prefix bytes)) [
  | inl o ↦ let none : None ≡ Some at = rw o at h in cc
  | inr o ↦ let some : Some (characters_end bytes) ≡ Some at = rw o at h in (o, cc)
]

-- ---- one byte more

abbrev codes_of : List (ℕ × ℕ) → List ℕ
codes_of cs = map (λ (c : ℕ × ℕ). c.0) cs

longer : (u : List ℕ) (b : ℕ) → length u < most_bytes → length (u ++ b ∷ []) ≤ most_bytes
longer u b h = let sum = length-append u (b ∷ []) in omega arith

-- a byte that gives no character leaves the code points as they are
pub same_codes : (u : List ℕ) (b : ℕ) → characters (u ++ b ∷ []) ≡ characters u ++ [] → chars (whole (u ++ b ∷ [])) ≡ chars (whole u)
same_codes u b h =
    sym (codes_whole (u ++ b ∷ [])) ∙ ap codes_of h ∙ map-append (λ (c : ℕ × ℕ). c.0) (characters u) [] ∙ append-nil (codes_of (characters u)) ∙ codes_whole u

-- and one that gives a character appends it
pub next_code : (u : List ℕ) (b c at : ℕ) → characters (u ++ b ∷ []) ≡ characters u ++ (c, at) ∷ [] → chars (whole (u ++ b ∷ [])) ≡ chars (whole u) ++ c ∷ []
next_code u b c at h =
    sym (codes_whole (u ++ b ∷ [])) ∙ ap codes_of h ∙ map-append (λ (c : ℕ × ℕ). c.0) (characters u) ((c, at) ∷ []) ∙ ap (λ t. t ++ c ∷ []) (codes_whole u)

-- characters appended
pub next_codes : (u later : List ℕ) (from : ℕ) (cs : List ℕ) → characters (u ++ later) ≡ characters u ++ with_offsets from cs → chars (whole (u ++ later)) ≡ chars (whole u) ++ cs
next_codes u later from cs h =
    sym (codes_whole (u ++ later)) ∙ ap codes_of h ∙ map-append (λ (c : ℕ × ℕ). c.0) (characters u) (with_offsets from cs)
    ∙ ap (λ t. codes_of (characters u) ++ t) (with_offsets_codes from cs) ∙ ap (λ t. t ++ cs) (codes_whole u)

pub still_open : (u : List ℕ) (b : ℕ) → length u < most_bytes → ill_formed_at (u ++ b ∷ []) ≡ None → point_fault (chars (whole (u ++ b ∷ []))) ≡ None → is_good_so_far (u ++ b ∷ []) ≡ true
still_open u b short formed good = open_from (u ++ b ∷ []) (longer u b short) (not_formed (u ++ b ∷ []) formed) good

-- the next character stands after the bytes of those so far
pub next_offset : (u : List ℕ) → IsUtf8 (whole u) → characters_end u ≤ length u → characters_end u ≡ byte_len (chars (whole u))
next_offset u text within =
    sym (length-take-le (characters_end u) u within) ∙ sym (ap length (encodes-chars (whole u) text)) ∙ sym (byte_len_encoded (chars (whole u)))

-- ---- faults that stay, whatever follows

assoc : (u : List ℕ) (b : ℕ) (more : List ℕ) → (u ++ b ∷ []) ++ more ≡ u ++ b ∷ more
assoc u b more = append_assoc u (b ∷ []) more

seen_after : (u : List ℕ) (b : ℕ) (more : List ℕ) → length u < most_bytes → seen (u ++ b ∷ more) ≡ (u ++ b ∷ []) ++ take (most_bytes - length (u ++ b ∷ [])) more
seen_after u b more h = ap seen (sym (assoc u b more)) ∙ seen_prefix (u ++ b ∷ []) more (longer u b h)

-- an open text is its own part that may be looked at
open_seen : (x : List ℕ) → is_good_so_far x ≡ true → seen x ≡ x
open_seen x h = seen_short x (open_short x h)

-- a text with a fault of a code point among what may be looked at is not open
pub not_open_by_code : (x : List ℕ) (at : ℕ × ℕ) → point_fault (chars (whole (seen x))) ≡ Some at → is_good_so_far x ≡ false
not_open_by_code x at h = elim (cases_Bool (is_good_so_far x)) [
  | inr n ↦ n
  | inl o ↦ let same = open_seen x o in let good = open_good x o in let bad = ap (λ t. point_fault (chars (whole t))) (sym same) ∙ h in let both : None ≡ Some at = sym good ∙ bad in cc
]

-- what begins the characters of the bytes, whatever follows
abbrev pub CharactersGoOn : List ℕ → Type 0
CharactersGoOn x = (more : List ℕ) → (rest : List (ℕ × ℕ)) × (characters (x ++ more) ≡ characters x ++ rest)

-- a code point at fault
pub code_at_fault : (u : List ℕ) (b c : ℕ) (more : List ℕ) (at : ℕ × ℕ) → length u < most_bytes → chars (whole (u ++ b ∷ [])) ≡ chars (whole u) ++ c ∷ [] → CharactersGoOn (u ++ b ∷ []) →
    ((rest : List ℕ) → point_fault (chars (whole u) ++ c ∷ rest) ≡ Some at) → point_fault (chars (whole (seen (u ++ b ∷ more)))) ≡ Some at
code_at_fault u b c more at short codes begins bad =
    let x = u ++ b ∷ [] in
    let tail = take (most_bytes - length x) more in
    let all = begins tail in
    let listed : chars (whole (x ++ tail)) ≡ chars (whole x) ++ codes_of all.0 =
    sym (codes_whole (x ++ tail)) ∙ ap codes_of all.1 ∙ map-append (λ (c : ℕ × ℕ). c.0) (characters x) all.0 ∙ ap (λ t. t ++ codes_of all.0) (codes_whole x) in
    let joined : chars (whole x) ++ codes_of all.0 ≡ chars (whole u) ++ c ∷ codes_of all.0 = ap (λ t. t ++ codes_of all.0) codes ∙ append_assoc (chars (whole u)) (c ∷ []) (codes_of all.0) in
    ap (λ t. point_fault (chars (whole t))) (seen_after u b more short) ∙ ap point_fault (listed ∙ joined) ∙ bad (codes_of all.0)

pub fault_by_code : (x : List ℕ) (at : ℕ × ℕ) → point_fault (chars (whole (seen x))) ≡ Some at → fault x ≡ Some (record { kind = at.1; offset = at.0 })
fault_by_code x at h = ap (λ o. first_of o (byte_fault x)) h

-- an ill-formed sequence
pub fault_by_form : (x : List ℕ) (at : ℕ) → point_fault (chars (whole (seen x))) ≡ None → ill_formed_at (seen x) ≡ Some at → characters_end (seen x) < length (seen x) →
    fault x ≡ Some (record { kind = ILL_FORMED; offset = at })
fault_by_form x at good bad within =
    let parts = formed (seen x) at bad in
    let closed = parts.0 in
    let here = parts.1 in
    let less = lt-ltb (characters_end (seen x)) (length (seen x)) within in
    let none : (nat_lt most_bytes (length x) && is_utf8_prefix (seen x)) ≡ false = and_right (nat_lt most_bytes (length x)) (is_utf8_prefix (seen x)) closed in
    let bytes : byte_fault x ≡ Some (record { kind = ILL_FORMED; offset = at }) = rw (none, less, here) refl in
    ap (λ o. first_of o (byte_fault x)) good ∙ bytes

pub not_open_by_form : (x : List ℕ) (at : ℕ) → ill_formed_at (seen x) ≡ Some at → is_good_so_far x ≡ false
not_open_by_form x at h = elim (cases_Bool (is_good_so_far x)) [
  | inr n ↦ n
  | inl o ↦ let same = open_seen x o in let cut = open_cut x o in let bad = (formed (seen x) at h).0 in let both : true ≡ false = sym cut ∙ ap is_utf8_prefix (sym same) ∙ bad in cc
]

-- more bytes than a text may have
pub full : (u : List ℕ) → is_good_so_far u ≡ true → most_bytes ≤ length u → length u ≡ most_bytes
full u o h = let short = open_short u o in omega arith

pub fault_by_length : (u : List ℕ) (b : ℕ) (more : List ℕ) → is_good_so_far u ≡ true → most_bytes ≤ length u → fault (u ++ b ∷ more) ≡ Some (record { kind = TOO_LONG; offset = characters_end u })
fault_by_length u b more o h =
    let exact = full u o h in
    let prefix = seen_prefix u (b ∷ more) (open_short u o) in
    let nothing : most_bytes - length u ≡ 0 = omega arith in
    let same : seen (u ++ b ∷ more) ≡ u = prefix ∙ ap (λ n. u ++ take n (b ∷ more)) nothing ∙ append-nil u in
    let good = ap (λ t. point_fault (chars (whole t))) same ∙ open_good u o in
    let cut = ap is_utf8_prefix same ∙ open_cut u o in
    let sum = length-append u (b ∷ more) in
    let over = lt-ltb most_bytes (length (u ++ b ∷ more)) (omega arith) in
    let end = ap characters_end same in
    let bytes : byte_fault (u ++ b ∷ more) ≡ Some (record { kind = TOO_LONG; offset = characters_end u }) = rw (over, cut, end) refl in
    ap (λ t. first_of t (byte_fault (u ++ b ∷ more))) good ∙ bytes

pub not_open_by_length : (u : List ℕ) (b : ℕ) (more : List ℕ) → most_bytes ≤ length u → is_good_so_far (u ++ b ∷ more) ≡ false
not_open_by_length u b more h = elim (cases_Bool (is_good_so_far (u ++ b ∷ more))) [
  | inr n ↦ n
  | inl o ↦ let short = open_short (u ++ b ∷ more) o in let sum = length-append u (b ∷ more) in absurd (omega arith)
]

-- ---- the end of an open text

no_bytes_fault : (u : List ℕ) → is_good_so_far u ≡ true → fault u ≡ cond (nat_lt (characters_end u) (length u)) (Some (record { kind = ILL_FORMED; offset = characters_end u })) None
no_bytes_fault u o =
    let same = open_seen u o in
    let good = ap (λ t. point_fault (chars (whole t))) same ∙ open_good u o in
    let under = le-ltb most_bytes (length u) (open_short u o) in
    ap (λ t. first_of t (byte_fault u)) good ∙ rw (under, same) refl

pub good_end : (u : List ℕ) → is_good_so_far u ≡ true → None ≡ first_fault u → None ≡ fault u
good_end u o h = elim (cases_Bool (characters_end u == length u)) [
  | inl e ↦ let same = eqb-true (characters_end u) (length u) e in let test = le-ltb (characters_end u) (length u) (omega arith) in sym (no_bytes_fault u o ∙ rw test refl)
  | inr e ↦ let some : None ≡ Some (characters_end u) = rw e at h in cc
]

pub cut_end : (u : List ℕ) (at : ℕ) → is_good_so_far u ≡ true → characters_end u ≤ length u → Some at ≡ first_fault u → Some (record { kind = ILL_FORMED; offset = at }) ≡ fault u
cut_end u at o within h = elim (cases_Bool (characters_end u == length u)) [
  | inl e ↦ let none : Some at ≡ None = rw e at h in cc
  | inr e ↦
      let some : Some at ≡ Some (characters_end u) = rw e at h in
      let here : at ≡ characters_end u = cc in
      let other = eqb-false (characters_end u) (length u) e in
      let test = lt-ltb (characters_end u) (length u) (omega arith) in
      sym (no_bytes_fault u o ∙ rw (test, here) refl)
]

-- ---- results

pub at_ok : {A E : Type 0} → (r : Result A E) (Q : Type 0) (a : A) → r ≡ Ok a → OnOk r Q → Q
at_ok r Q a e h = subst (λ t. OnOk t Q) e h

pub at_err : {A E : Type 0} → (r : Result A E) (Q : E → Type 0) (x : E) → r ≡ Err x → IfErr r Q → Q x
at_err r Q x e h = subst (λ t. IfErr t Q) e h

-- ---- an ill-formed sequence, whatever follows

cut_short : (y : List ℕ) (at : ℕ) → first_fault y ≡ Some at → characters_end y ≤ length y → characters_end y < length y
cut_short y at h within = elim (cases_Bool (characters_end y == length y)) [
  | inl e ↦ let none : None ≡ Some at = rw e at h in cc
  | inr e ↦ let other = eqb-false (characters_end y) (length y) e in omega arith
]

-- what was reported of the bytes so far holds of all that follow
pub record IsIllAfter (x : List ℕ) (at : ℕ) : Type 0 where
  pub listed : (more : List ℕ) → characters (x ++ more) ≡ characters x
  pub formed : (more : List ℕ) → ill_formed_at (x ++ more) ≡ Some at
  pub short : (more : List ℕ) → characters_end (x ++ more) < length (x ++ more)

pub ill_after : (x : List ℕ) (at : ℕ) → ((more : List ℕ) → characters (x ++ more) ≡ characters x ++ []) → ((more : List ℕ) → ill_formed_at (x ++ more) ≡ Some at) →
    ((more : List ℕ) → first_fault (x ++ more) ≡ Some at) → ((bytes : List ℕ) → characters_end bytes ≤ length bytes) → IsIllAfter x at
ill_after x at listed formed faulty within = record {
  listed = λ more. listed more ∙ append-nil (characters x);
  formed = formed;
  short = λ more. cut_short (x ++ more) at (faulty more) (within (x ++ more));
}

pub fault_ill : (u : List ℕ) (b : ℕ) (more : List ℕ) (at : ℕ) → is_good_so_far u ≡ true → length u < most_bytes → chars (whole (u ++ b ∷ [])) ≡ chars (whole u) → IsIllAfter (u ++ b ∷ []) at →
    fault (u ++ b ∷ more) ≡ Some (record { kind = ILL_FORMED; offset = at })
fault_ill u b more at o short codes ill =
    let x = u ++ b ∷ [] in
    let tail = take (most_bytes - length x) more in
    let here : seen (u ++ b ∷ more) ≡ x ++ tail = seen_after u b more short in
    let same : chars (whole (x ++ tail)) ≡ chars (whole x) = sym (codes_whole (x ++ tail)) ∙ ap codes_of (ill.listed tail) ∙ codes_whole x in
    let good = ap (λ t. point_fault (chars (whole t))) here ∙ ap point_fault (same ∙ codes) ∙ open_good u o in
    let bad = ap ill_formed_at here ∙ ill.formed tail in
    let P : List ℕ → Type 0 = λ y. characters_end y < length y in
    fault_by_form (u ++ b ∷ more) at good bad (subst P (sym here) (ill.short tail))

pub not_open_ill : (u : List ℕ) (b : ℕ) (more : List ℕ) (at : ℕ) → length u < most_bytes → IsIllAfter (u ++ b ∷ []) at → is_good_so_far (u ++ b ∷ more) ≡ false
not_open_ill u b more at short ill =
    let x = u ++ b ∷ [] in
    let tail = take (most_bytes - length x) more in
    not_open_by_form (u ++ b ∷ more) at (ap ill_formed_at (seen_after u b more short) ∙ ill.formed tail)

-- a piece around one of its bytes, after other bytes
pub around : (u piece : List ℕ) (i : ℕ) → i < length piece → (u ++ take i piece) ++ get_or piece i 0 ∷ drop (suc i) piece ≡ u ++ piece
around u piece i h = append_assoc u (take i piece) (get_or piece i 0 ∷ drop (suc i) piece) ∙ ap (λ t. u ++ t) (sym (split_at piece i 0 h))

no_some : {X : Type 0} → (x : X) → None ≡ Some x → ⊥
no_some x h = cc

-- an open text without a fault is its own whole characters
pub whole_of_good : (u : List ℕ) → is_good_so_far u ≡ true → None ≡ fault u → whole u ≡ u
whole_of_good u o h = elim (cases_Bool (nat_lt (characters_end u) (length u))) [
  | inl less ↦
      let ill : TextFault = record { kind = ILL_FORMED; offset = characters_end u } in
      let reported : cond (nat_lt (characters_end u) (length u)) (Some ill) None ≡ Some ill = rw less refl in
      absurd (no_some ill (h ∙ no_bytes_fault u o ∙ reported))
  | inr all ↦ take_all (characters_end u) u (ltb-false (characters_end u) (length u) all)
]

-- where the end of the bytes cuts a character, it starts where the whole characters end
pub first_fault-at : (u : List ℕ) (at : ℕ) → Some at ≡ first_fault u → at ≡ characters_end u
first_fault-at u at h = elim (cases_Bool (characters_end u == length u)) [
  | inl e ↦ let none : Some at ≡ None = rw e at h in cc
  | inr e ↦ let some : Some at ≡ Some (characters_end u) = rw e at h in cc
]
