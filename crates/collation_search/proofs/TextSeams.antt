-- A character that stands whole in a text that is good so far, and begins with a starter: as many such characters stand from there on.
use Rattle.std.specs.Char.{len_utf8, encode_utf8, IsScalar}
use Rattle.std.specs.Prelude.{IsTrue, ◌↔◌}
use Rattle.std.specs.Str.{chars, IsUtf8, IsCharBoundary}
use Rattle.std.proofs.Common.{◌≡◌, ◌∙◌, ℕ, ◌+◌, ◌<◌, ◌≤◌, Bool, true, false, ◌&&◌, nat_le, List, [], ◌∷◌, ◌++◌, length, take, drop, filter, refl, sym, ap, subst, arith, append_assoc, length-append}
use Rattle.std.proofs.lemmas.Bool.{and_parts, and_from, le-leb, leb-true, lt-leb}
use Rattle.std.proofs.lemmas.List.{append-nil, take-append-drop, length-take-le}
use Rattle.std.proofs.lemmas.List.Elements.{filter-append}
use Rattle.std.proofs.lemmas.Str.{IsUtf8-append, IsUtf8-encode, IsUtf8-take, IsCharBoundary-start, IsCharBoundary-from_rest, utf8_valid_len-IsUtf8, len_utf8_bounds, length-encode}
use Rattle.utf8_cut.specs.Characters.{characters, characters_end, characters_from, is_incomplete_or_empty, is_incomplete_sequence, is_utf8_prefix, with_offsets}
use Rattle.utf8_cut.specs.Sequences.{BeginsCharacter, SpellsCharacter}
use Rattle.nfd_points.specs.Points.{points_of, begins_with_starter}
use Rattle.collation_matches.specs.GoodPrefix.{is_good_so_far, whole}
use Rattle.collation_matches.proofs.TextCheckLemmas.{open_cut}
use Rattle.collation_search.specs.Early.{starters_from}
use Rattle.collation_finder.proofs.CharacterLemmas.{one_char}
use Rattle.collation_search.proofs.StarterCounts.{flag, filter-first, filter-fewer}

-- ---- a seam

-- a character begins at a boundary, whatever follows it
first_boundary : (bs rest : List ℕ) → 0 < length bs → IsCharBoundary bs 0 → IsCharBoundary (bs ++ rest) 0
first_boundary [] rest some h = absurd (omega (arith, some))
first_boundary (b ∷ bs) rest some h = (omega arith, λ there. h.1 some)

character_boundary : (c : ℕ) (rest : List ℕ) → IsScalar c → IsCharBoundary (encode_utf8 c ++ rest) 0
character_boundary c rest scalar =
    let long = length-encode c in
    let some = (len_utf8_bounds c).0 in
    first_boundary (encode_utf8 c) rest (omega (arith, long, some)) (IsCharBoundary-start (encode_utf8 c) (IsUtf8-encode c scalar))

take-first : (xs ys : List ℕ) → take (length xs) (xs ++ ys) ≡ xs
take-first [] ys = refl
take-first (x ∷ xs) ys = ap (λ (t : List ℕ). x ∷ t) (take-first xs ys)

drop-first : (xs ys : List ℕ) → drop (length xs) (xs ++ ys) ≡ ys
drop-first [] ys = refl
drop-first (x ∷ xs) ys = drop-first xs ys

-- what stands before a character of a text is a text
text-before : (all before rest : List ℕ) (c : ℕ) → IsUtf8 all → IsScalar c → all ≡ before ++ (encode_utf8 c ++ rest) → IsUtf8 before
text-before all before rest c utf8 scalar parts =
    let n = length before in
    let after : drop n all ≡ encode_utf8 c ++ rest = ap (drop n) parts ∙ drop-first before (encode_utf8 c ++ rest) in
    let within : n ≤ length all = let sum = ap length parts ∙ length-append before (encode_utf8 c ++ rest) in omega (arith, sum) in
    let here = IsCharBoundary-from_rest all n 0 within (subst (λ bs. IsCharBoundary bs 0) (sym after) (character_boundary c rest scalar)) in
    let same : n + 0 ≡ n = omega arith in
    let prefix : take n all ≡ before = ap (take n) parts ∙ take-first before (encode_utf8 c ++ rest) in
    subst IsUtf8 prefix (IsUtf8-take all n utf8 (subst (IsCharBoundary all) same here))

-- ---- bytes that a text may begin with

-- what is said of the whole characters of bytes, and of an incomplete sequence
pub record SeamLaws : Type 0 where
  pub text : (bytes : List ℕ) → IsUtf8 (take (characters_end bytes) bytes)
  pub begin : (bytes : List ℕ) → is_incomplete_or_empty bytes ≡ true → 0 < length bytes → BeginsCharacter bytes
  pub parts : (from : ℕ) (text bytes : List ℕ) → IsUtf8 text → characters_from from (text ++ bytes) ≡ characters_from from text ++ characters_from (from + length text) bytes

pub seam_laws : ((bytes : List ℕ) → IsUtf8 (take (characters_end bytes) bytes)) → ((bytes : List ℕ) → IsTrue (is_incomplete_sequence bytes) ↔ BeginsCharacter bytes) →
    ((from : ℕ) (text bytes : List ℕ) → IsUtf8 text → characters_from from (text ++ bytes) ≡ characters_from from text ++ characters_from (from + length text) bytes) → SeamLaws
seam_laws text begin parts = record { text = text; begin = begins; parts = parts } where
  begins : (bytes : List ℕ) → is_incomplete_or_empty bytes ≡ true → 0 < length bytes → BeginsCharacter bytes
  begins [] h some = absurd (omega (arith, some))
  begins (b ∷ bytes) h some = (begin (b ∷ bytes)).0 h

-- they are completed
abbrev Completed : List ℕ → Type 0
Completed bytes = (more : List ℕ) × IsUtf8 (bytes ++ more)

completed-by : (laws : SeamLaws) (front held : List ℕ) → IsUtf8 front → is_incomplete_or_empty held ≡ true → (more : List ℕ) × IsUtf8 (front ++ (held ++ more))
completed-by laws front [] text h = ([], subst IsUtf8 (sym (append-nil front)) text)
completed-by laws front (b ∷ held) text h =
    let begun = laws.begin (b ∷ held) h (omega arith) in
    (begun.1, IsUtf8-append front ((b ∷ held) ++ begun.1) text (one_char ((b ∷ held) ++ begun.1) begun.2 begun.4).0)

completed : SeamLaws → (bytes : List ℕ) → is_utf8_prefix bytes ≡ true → Completed bytes
completed laws bytes formed =
    let n = characters_end bytes in
    let by = completed-by laws (take n bytes) (drop n bytes) (laws.text bytes) formed in
    (by.0, subst IsUtf8 (sym (append_assoc (take n bytes) (drop n bytes) by.0) ∙ ap (λ bs. bs ++ by.0) (take-append-drop n bytes)) by.1)

before-text : SeamLaws → (before rest : List ℕ) (c : ℕ) → is_utf8_prefix (before ++ (encode_utf8 c ++ rest)) ≡ true → IsScalar c → IsUtf8 before
before-text laws before rest c formed scalar =
    let all = completed laws (before ++ (encode_utf8 c ++ rest)) formed in
    text-before ((before ++ (encode_utf8 c ++ rest)) ++ all.0) before (rest ++ all.0) c all.1 scalar
    (append_assoc before (encode_utf8 c ++ rest) all.0 ∙ ap (λ bs. before ++ bs) (append_assoc (encode_utf8 c) rest all.0))

-- ---- the characters

one_character : SeamLaws → (from : ℕ) (bytes : List ℕ) (c : ℕ) → SpellsCharacter bytes c → characters_from from bytes ≡ (c, from) ∷ []
one_character laws from bytes c spelled =
    let one = one_char bytes c spelled in
    let all : take (characters_end bytes) bytes ≡ bytes = ap (λ n. take n bytes) (utf8_valid_len-IsUtf8 bytes one.0) ∙ take-all bytes in
    ap (λ bs. with_offsets from (chars bs)) all ∙ ap (with_offsets from) one.1
  where
    take-all : (xs : List ℕ) → take (length xs) xs ≡ xs
    take-all xs = ap (take (length xs)) (sym (append-nil xs)) ∙ take-first xs []

-- the characters before it, the character, and those after it
around-character : SeamLaws → (before rest : List ℕ) (c : ℕ) → is_utf8_prefix (before ++ (encode_utf8 c ++ rest)) ≡ true → IsScalar c →
    characters (before ++ (encode_utf8 c ++ rest)) ≡ characters before ++ (c, length before) ∷ characters_from (length before + length (encode_utf8 c)) rest
around-character laws before rest c formed scalar =
    let n = length before in
    let text = before-text laws before rest c formed scalar in
    let same : 0 + n ≡ n = omega arith in
    laws.parts 0 before (encode_utf8 c ++ rest) text
    ∙ ap (λ k. characters before ++ characters_from k (encode_utf8 c ++ rest)) same
    ∙ ap (λ cs. characters before ++ cs) (laws.parts n (encode_utf8 c) rest (IsUtf8-encode c scalar)
    ∙ ap (λ cs. cs ++ characters_from (n + length (encode_utf8 c)) rest) (one_character laws n (encode_utf8 c) c (scalar, refl)))

-- ---- counts

abbrev stands_far : ℕ → ℕ × ℕ → Bool
stands_far place c = nat_le place c.1 && begins_with_starter (points_of 0 c.0)

far-nearer : (place : ℕ) (c : ℕ × ℕ) → stands_far (place + 1) c ≡ true → stands_far place c ≡ true
far-nearer place c h =
    let parts = and_parts (nat_le (place + 1) c.1) (begins_with_starter (points_of 0 c.0)) h in
    let further = leb-true (place + 1) c.1 parts.0 in
    and_from (nat_le place c.1) (begins_with_starter (points_of 0 c.0)) (le-leb place c.1 (omega (arith, further))) parts.1

-- one place further
pub starters-fewer : (place : ℕ) (cs : List ℕ) → starters_from (place + 1) cs ≤ starters_from place cs
starters-fewer place cs = filter-fewer (stands_far (place + 1)) (stands_far place) (far-nearer place) (with_offsets 0 cs)

one_more : (place c : ℕ) (before after : List (ℕ × ℕ)) → begins_with_starter (points_of 0 c) ≡ true →
    1 + length (filter (stands_far (place + 1)) (before ++ (c, place) ∷ after)) ≤ length (filter (stands_far place) (before ++ (c, place) ∷ after))
one_more place c before after begins =
    let few = stands_far (place + 1) in
    let many = stands_far place in
    let here : many (c, place) ≡ true = and_from (nat_le place place) (begins_with_starter (points_of 0 c)) (le-leb place place (omega arith)) begins in
    let past : few (c, place) ≡ false = ap (λ b. b && begins_with_starter (points_of 0 c)) (lt-leb (place + 1) place (omega arith)) in
    let one = ap flag here in
    let zero = ap flag past in
    let few_parts = ap length (filter-append few before ((c, place) ∷ after)) ∙ length-append (filter few before) (filter few ((c, place) ∷ after)) in
    let many_parts = ap length (filter-append many before ((c, place) ∷ after)) ∙ length-append (filter many before) (filter many ((c, place) ∷ after)) in
    let few_first = filter-first few (c, place) after in
    let many_first = filter-first many (c, place) after in
    let first = filter-fewer few many (far-nearer place) before in
    let last = filter-fewer few many (far-nearer place) after in
    omega (arith, one, zero, few_parts, many_parts, few_first, many_first, first, last)

-- the bytes of a piece with a character at an index
split_at_character : (u piece : List ℕ) (at c : ℕ) → at ≤ length piece → SpellsCharacter (take (len_utf8 c) (drop at piece)) c →
    u ++ piece ≡ (u ++ take at piece) ++ (encode_utf8 c ++ drop (len_utf8 c) (drop at piece))
split_at_character u piece at c within spelled =
    ap (λ bs. u ++ bs) (sym (take-append-drop at piece)
    ∙ ap (λ bs. take at piece ++ bs) (sym (take-append-drop (len_utf8 c) (drop at piece)) ∙ ap (λ bs. bs ++ drop (len_utf8 c) (drop at piece)) spelled.1))
    ∙ sym (append_assoc u (take at piece) (encode_utf8 c ++ drop (len_utf8 c) (drop at piece)))

-- where such a character stands in a piece, one more stands from there on than after it
pub starters-more : SeamLaws → (u piece : List ℕ) (at c : ℕ) → at ≤ length piece → SpellsCharacter (take (len_utf8 c) (drop at piece)) c → begins_with_starter (points_of 0 c) ≡ true → is_good_so_far (u ++ piece) ≡ true →
    1 + starters_from (length u + at + 1) (chars (whole (u ++ piece))) ≤ starters_from (length u + at) (chars (whole (u ++ piece)))
starters-more laws u piece at c within spelled begins good =
    let before = u ++ take at piece in
    let rest = drop (len_utf8 c) (drop at piece) in
    let all = split_at_character u piece at c within spelled in
    let formed : is_utf8_prefix (before ++ (encode_utf8 c ++ rest)) ≡ true = subst (λ bs. is_utf8_prefix bs ≡ true) all (open_cut (u ++ piece) good) in
    let place : length before ≡ length u + at = length-append u (take at piece) ∙ ap (λ n. length u + n) (length-take-le at piece within) in
    let codes : characters (u ++ piece) ≡ characters before ++ (c, length u + at) ∷ characters_from (length before + length (encode_utf8 c)) rest =
    ap characters all ∙ around-character laws before rest c formed spelled.0
    ∙ ap (λ n. characters before ++ (c, n) ∷ characters_from (length before + length (encode_utf8 c)) rest) place in
    let more = one_more (length u + at) c (characters before) (characters_from (length before + length (encode_utf8 c)) rest) begins in
    let few = ap (λ cs. length (filter (stands_far (length u + at + 1)) cs)) codes in
    let many = ap (λ cs. length (filter (stands_far (length u + at)) cs)) codes in
    omega (arith, more, few, many)
