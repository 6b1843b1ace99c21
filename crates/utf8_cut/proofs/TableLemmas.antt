-- Table 3-7 against the bytes of characters.
use Rattle.std.proofs.Common.{◌≡◌, ℕ, zero, suc, ◌+◌, ◌-◌, ◌*◌, ◌<◌, ◌≤◌, true, false, List, [], ◌∷◌, ◌++◌, length, take, drop, refl, sym, ap, ◌∙◌, subst, inl, inr, arith, append-nil, length-append, take-append-drop, le-leb, leb-true, lt-ltb, le-ltb}
use Rattle.std.proofs.lemmas.List.{take-append-le, take_at, nil_from_length}
use Rattle.std.specs.Prelude.{IsTrue}
use Rattle.std.proofs.lemmas.Bool.{and_parts, and_from, and_right, cases_lt, false≢true, false_from_ne_true, lt-leb}
use Rattle.std.proofs.lemmas.Str.{encodes-chars, scalars-chars, IsUtf8-encode, length-encode, len_utf8_bounds}
use Rattle.std.specs.Int.{is_in_range}
use Rattle.std.specs.Char.{IsScalar}
use Rattle.std.specs.Str.{IsUtf8, StartsWithNoChar, chars}
use Rattle.std.specs.Str.Lossy.{second_byte_min, second_byte_max}
use Rattle.std.proofs.str.Faults.{no_char}
use Rattle.std.proofs.str.Laws.{Shape, of1, of2, of3, of4, shape}
use Rattle.simdutf8.specs.Steps.{IsClosed, Step, first, second, later, StepsThen}
use Rattle.simdutf8.proofs.Chars.{least_is, most_is, StepsThen-IsUtf8}
use Rattle.utf8_cut.specs.Characters.{is_incomplete_sequence, is_incomplete_or_empty}
use Rattle.utf8_cut.specs.Sequences.{SpellsCharacter, IsIllFormed, BeginsCharacter}
use lib.Utf8.{encode, encodes, scalars, scalar_cases}

pub encode_some : (c : ℕ) → 0 < length (encode c)
encode_some c = omega (arith, length-encode c, len_utf8_bounds c)

pub no_char_nil : StartsWithNoChar []
no_char_nil c rest s e = omega (arith, encode_some c, ap length e, length-append (encode c) rest)

-- a test of a range, as facts
pub in_range : (lo hi x : ℕ) → is_in_range lo hi x ≡ true → (lo ≤ x) × (x ≤ hi)
in_range lo hi x h = let p = and_parts _ _ h in (leb-true lo x p.0, leb-true x hi p.1)

pub is_in : (lo hi x : ℕ) → lo ≤ x → x ≤ hi → is_in_range lo hi x ≡ true
is_in lo hi x l h = rw (le-leb lo x l, le-leb x hi h)

-- a number outside a range
pub is_below : (lo hi x : ℕ) → x < lo → is_in_range lo hi x ≡ false
is_below lo hi x h = rw (lt-leb lo x h)

pub is_above : (lo hi x : ℕ) → hi < x → is_in_range lo hi x ≡ false
is_above lo hi x h = and_right _ _ (lt-leb x hi h)

-- the facts that the test of an incomplete sequence says
pub incomplete_two : (x y : ℕ) → IsTrue (is_incomplete_sequence (x ∷ y ∷ [])) → (0xE0 ≤ x) × (x ≤ 0xF4) × (is_in_range (second_byte_min x) (second_byte_max x) y ≡ true)
incomplete_two x y h = let p = and_parts _ _ h in let r = in_range 0xE0 0xF4 x p.0 in (r.0, r.1, p.1)

pub incomplete_three : (x y z : ℕ) → IsTrue (is_incomplete_sequence (x ∷ y ∷ z ∷ [])) → (0xF0 ≤ x) × (x ≤ 0xF4) × (is_in_range (second_byte_min x) (second_byte_max x) y ≡ true) × (is_in_range 0x80 0xBF z ≡ true)
incomplete_three x y z h = let p = and_parts _ _ h in let q = and_parts _ _ p.1 in let r = in_range 0xF0 0xF4 x p.0 in (r.0, r.1, q.0, q.1)

-- no character begins a cut one
pub incomplete_no_char : (bytes : List ℕ) → IsTrue (is_incomplete_sequence bytes) → StartsWithNoChar bytes
incomplete_no_char [] h = absurd (false≢true h)
incomplete_no_char (x ∷ []) h = let p = in_range 0xC2 0xF4 x h in no_char (x ∷ []) 0 (λ w. omega (arith, w.second (omega arith)))
incomplete_no_char (x ∷ y ∷ []) h = let p = incomplete_two x y h in no_char (x ∷ y ∷ []) 0 (λ w. omega (arith, w.third (omega arith)))
incomplete_no_char (x ∷ y ∷ z ∷ []) h = let p = incomplete_three x y z h in no_char (x ∷ y ∷ z ∷ []) 0 (λ w. omega (arith, w.fourth (omega arith)))
incomplete_no_char (x ∷ y ∷ z ∷ w ∷ rest) h = absurd (false≢true h)

out_of_range : (lo hi x : ℕ) → is_in_range lo hi x ≡ false → lo ≤ x → x ≤ hi → ⊥
out_of_range lo hi x e l h = false≢true (sym e ∙ is_in lo hi x l h)

-- a byte that no character begins with
pub ill_one : (x : ℕ) → 0x80 ≤ x → is_in_range 0xC2 0xF4 x ≡ false → IsIllFormed (x ∷ [])
ill_one x l e = (no_char (x ∷ []) 0 (λ w. omega (arith, w.second (omega arith))), e)

-- a second byte that can't stand after the first
pub ill_two : (x y : ℕ) → IsTrue (is_incomplete_sequence (x ∷ [])) → is_in_range (second_byte_min x) (second_byte_max x) y ≡ false → IsIllFormed (x ∷ y ∷ [])
ill_two x y h e =
    let p = in_range 0xC2 0xF4 x h in
    let out = out_of_range _ _ y e in
    let none : StartsWithNoChar (x ∷ y ∷ []) = no_char (x ∷ y ∷ []) 0 (λ w. elim (cases_lt x 0xE0) [
      | inl s ↦ out (omega (arith, least_is x, w.second (omega arith))) (omega (arith, most_is x, w.second (omega arith)))
      | inr s ↦ omega (arith, w.third (omega arith))
    ]) in
    (none, and_right _ _ e)

-- a third byte or a fourth that is no continuation
pub ill_three : (x y z : ℕ) → IsTrue (is_incomplete_sequence (x ∷ y ∷ [])) → is_in_range 0x80 0xBF z ≡ false → IsIllFormed (x ∷ y ∷ z ∷ [])
ill_three x y z h e =
    let p = incomplete_two x y h in
    let out = out_of_range 0x80 0xBF z e in
    (no_char (x ∷ y ∷ z ∷ []) 0 (λ w. out (omega (arith, w.third (omega arith))) (omega (arith, w.third (omega arith)))), and_right _ _ (and_right _ _ e))

pub ill_four : (x y z w : ℕ) → IsTrue (is_incomplete_sequence (x ∷ y ∷ z ∷ [])) → is_in_range 0x80 0xBF w ≡ false → IsIllFormed (x ∷ y ∷ z ∷ w ∷ [])
ill_four x y z w h e =
    let p = incomplete_three x y z h in
    let out = out_of_range 0x80 0xBF w e in
    (no_char (x ∷ y ∷ z ∷ w ∷ []) 0 (λ r. out (omega (arith, r.fourth (omega arith))) (omega (arith, r.fourth (omega arith)))), refl)

-- ---- bytes that are a character

spells : (bytes : List ℕ) (c : ℕ) → IsUtf8 bytes → chars bytes ≡ c ∷ [] → SpellsCharacter bytes c
spells bytes c u e = (
  (and_parts _ _ (ap (λ cs. scalars cs) (sym e) ∙ scalars-chars bytes u)).0,
  sym (encodes-chars bytes u) ∙ ap (λ cs. encodes cs) e ∙ append-nil (encode c),
)

pub spells_two : (x y : ℕ) → 0xC2 ≤ x → x < 0xE0 → is_in_range (second_byte_min x) (second_byte_max x) y ≡ true → SpellsCharacter (x ∷ y ∷ []) ((x - 0xC0) * 0x40 + (y - 0x80))
unfolding chars
spells_two x y l h e =
    let r = in_range _ _ y e in
    let m = most_is x in
    let u = (StepsThen-IsUtf8 (x ∷ y ∷ [])).0 (first (omega arith) (inr (omega arith)), (second (omega arith) (omega arith) r, omega arith)) in
    spells _ _ u (rw (le-ltb x 128 (omega arith), lt-ltb x 224 h))

pub spells_three : (x y z : ℕ) → 0xE0 ≤ x → x < 0xF0 → is_in_range (second_byte_min x) (second_byte_max x) y ≡ true → 0x80 ≤ z → z < 0xC0
    → SpellsCharacter (x ∷ y ∷ z ∷ []) (((x - 0xE0) * 0x40 + (y - 0x80)) * 0x40 + (z - 0x80))
unfolding chars
spells_three x y z l h e f g =
    let r = in_range _ _ y e in
    let k = least_is x in
    let m = most_is x in
    let u = (StepsThen-IsUtf8 (x ∷ y ∷ z ∷ [])).0
    (first (omega arith) (inr (omega arith)), (second (omega arith) (omega arith) r, (later (inr (omega arith)) (omega arith) (omega arith), omega arith))) in
    spells _ _ u (rw (le-ltb x 128 (omega arith), le-ltb x 224 l, lt-ltb x 240 h))

pub spells_four : (x y z w : ℕ) → 0xF0 ≤ x → x ≤ 0xF4 → is_in_range (second_byte_min x) (second_byte_max x) y ≡ true → 0x80 ≤ z → z < 0xC0 → 0x80 ≤ w → w < 0xC0
    → SpellsCharacter (x ∷ y ∷ z ∷ w ∷ []) ((((x - 0xF0) * 0x40 + (y - 0x80)) * 0x40 + (z - 0x80)) * 0x40 + (w - 0x80))
unfolding chars
spells_four x y z w l h e f g i j =
    let r = in_range _ _ y e in
    let k = least_is x in
    let m = most_is x in
    let u = (StepsThen-IsUtf8 (x ∷ y ∷ z ∷ w ∷ [])).0 (
      first (omega arith) (inr (omega arith)),
      (second (omega arith) (omega arith) r, (later (inr (omega arith)) (omega arith) (omega arith), (later (inl (omega arith)) (omega arith) (omega arith), omega arith))),
    ) in
    spells _ _ u (rw (le-ltb x 128 (omega arith), le-ltb x 224 (omega arith), le-ltb x 240 l))

-- ---- the prefixes of a character

-- what a step says where its three bytes before are known
second_of : (x y : ℕ) → 0xC0 ≤ x → Step 0 0 x y → (0xC2 ≤ x) × (x ≤ 0xF4) × (is_in_range (second_byte_min x) (second_byte_max x) y ≡ true)
second_of x y h (first p q) = absurd (omega arith)
second_of x y h (second p q r) = (q.0, q.1, is_in _ _ y r.0 r.1)
second_of x y h (later p q r) = absurd (omega arith)

third_of : (x y z : ℕ) → 0xE0 ≤ x → Step 0 x y z → is_in_range 0x80 0xBF z ≡ true
third_of x y z h (first p q) = absurd (omega arith)
third_of x y z h (second p q r) = absurd (omega arith)
third_of x y z h (later p q r) = is_in _ _ z (omega arith) (omega arith)

abbrev Valid : List ℕ → Type 0
Valid = StepsThen IsClosed 0 0 0

prefix_of_two : (a b n : ℕ) → 0xC0 ≤ a → 0 < n → Valid (a ∷ b ∷ []) → n < 2 → IsTrue (is_incomplete_sequence (take n (a ∷ b ∷ [])))
prefix_of_two a b zero l p v h = absurd (omega arith)
prefix_of_two a b (suc zero) l p v h = let s = second_of a b l v.1.0 in is_in 0xC2 0xF4 a (omega arith) (omega arith)
prefix_of_two a b (suc (suc n)) l p v h = absurd (omega arith)

prefix_of_three : (a b d n : ℕ) → 0xE0 ≤ a → 0 < n → Valid (a ∷ b ∷ d ∷ []) → n < 3 → IsTrue (is_incomplete_sequence (take n (a ∷ b ∷ d ∷ [])))
prefix_of_three a b d zero l p v h = absurd (omega arith)
prefix_of_three a b d (suc zero) l p v h = let s = second_of a b (omega arith) v.1.0 in is_in 0xC2 0xF4 a (omega arith) (omega arith)
prefix_of_three a b d (suc (suc zero)) l p v h =
    let s = second_of a b (omega arith) v.1.0 in and_from _ _ (is_in 0xE0 0xF4 a (omega arith) (omega arith)) s.2
prefix_of_three a b d (suc (suc (suc n))) l p v h = absurd (omega arith)

prefix_of_four : (a b d x n : ℕ) → 0xF0 ≤ a → 0 < n → Valid (a ∷ b ∷ d ∷ x ∷ []) → n < 4 → IsTrue (is_incomplete_sequence (take n (a ∷ b ∷ d ∷ x ∷ [])))
prefix_of_four a b d x zero l p v h = absurd (omega arith)
prefix_of_four a b d x (suc zero) l p v h = let s = second_of a b (omega arith) v.1.0 in is_in 0xC2 0xF4 a (omega arith) (omega arith)
prefix_of_four a b d x (suc (suc zero)) l p v h =
    let s = second_of a b (omega arith) v.1.0 in and_from _ _ (is_in 0xE0 0xF4 a (omega arith) (omega arith)) s.2
prefix_of_four a b d x (suc (suc (suc zero))) l p v h =
    let s = second_of a b (omega arith) v.1.0 in
    and_from _ _ (is_in 0xF0 0xF4 a (omega arith) (omega arith)) (and_from _ _ s.2 (third_of a b d (omega arith) v.1.1.0))
prefix_of_four a b d x (suc (suc (suc (suc n)))) l p v h = absurd (omega arith)

abbrev IsIncompletePrefix : ℕ → List ℕ → Type 0
IsIncompletePrefix n bytes = Valid bytes → n < length bytes → IsTrue (is_incomplete_sequence (take n bytes))

prefix_of : (c n : ℕ) → 0 < n → Shape c → IsIncompletePrefix n (encode c)
prefix_of c n p (of1 h e) = λ v l. absurd (omega (arith, ap length e))
prefix_of c n p (of2 a b l u f t e) = subst (IsIncompletePrefix n) (sym e) (prefix_of_two a b n l p)
prefix_of c n p (of3 a b d l u f g t e) = subst (IsIncompletePrefix n) (sym e) (prefix_of_three a b d n l p)
prefix_of c n p (of4 a b d x l u f g k t e) = subst (IsIncompletePrefix n) (sym e) (prefix_of_four a b d x n l p)

-- one to three bytes of a longer character are a cut one
pub prefix_is_incomplete : (c n : ℕ) → IsScalar c → 0 < n → n < length (encode c) → IsTrue (is_incomplete_sequence (take n (encode c)))
prefix_is_incomplete c n s l h = prefix_of c n l (shape c (scalar_cases c s)) ((StepsThen-IsUtf8 (encode c)).1 (IsUtf8-encode c s)) h

-- ---- more bytes mend no fault

-- what begins an incomplete sequence is one
held_prefix : (bytes more : List ℕ) → IsTrue (is_incomplete_or_empty (bytes ++ more)) → IsTrue (is_incomplete_or_empty bytes)
held_prefix [] more h = refl
held_prefix (x ∷ []) [] h = h
held_prefix (x ∷ []) (y ∷ []) h = let p = incomplete_two x y h in is_in 0xC2 0xF4 x (omega arith) (omega arith)
held_prefix (x ∷ []) (y ∷ z ∷ []) h = let p = incomplete_three x y z h in is_in 0xC2 0xF4 x (omega arith) (omega arith)
held_prefix (x ∷ []) (y ∷ z ∷ w ∷ more) h = absurd (false≢true h)
held_prefix (x ∷ y ∷ []) [] h = h
held_prefix (x ∷ y ∷ []) (z ∷ []) h = let p = incomplete_three x y z h in and_from _ _ (is_in 0xE0 0xF4 x (omega arith) (omega arith)) p.2
held_prefix (x ∷ y ∷ []) (z ∷ w ∷ more) h = absurd (false≢true h)
held_prefix (x ∷ y ∷ z ∷ []) [] h = h
held_prefix (x ∷ y ∷ z ∷ []) (w ∷ more) h = absurd (false≢true h)
held_prefix (x ∷ y ∷ z ∷ w ∷ bytes) more h = absurd (false≢true h)

pub incomplete_is_held : (bytes : List ℕ) → IsTrue (is_incomplete_sequence bytes) → IsTrue (is_incomplete_or_empty bytes)
incomplete_is_held [] h = refl
incomplete_is_held (x ∷ bytes) h = h

pub held_no_char : (bytes : List ℕ) → IsTrue (is_incomplete_or_empty bytes) → StartsWithNoChar bytes
held_no_char [] h = no_char_nil
held_no_char (x ∷ bytes) h = incomplete_no_char (x ∷ bytes) h

-- two lists in a row are the same two ways: the shorter prefix is a prefix of the longer one
prefix_in : (xs ys us vs : List ℕ) → xs ++ ys ≡ us ++ vs → length us ≤ length xs → xs ≡ us ++ drop (length us) xs
prefix_in xs ys us vs e l =
    let t : take (length us) xs ≡ us = sym (take-append-le (length us) xs ys l) ∙ ap (take (length us)) e ∙ take_at us vs (length us) refl in
    sym (take-append-drop (length us) xs) ∙ ap (λ f. f ++ drop (length us) xs) t

-- no bytes after an ill-formed sequence mend it
pub ill_stays : (bytes more : List ℕ) → IsIllFormed bytes → IsIllFormed (bytes ++ more)
ill_stays bytes more h = (none, false_from_ne_true _ (λ t. false≢true (sym h.1 ∙ held_prefix bytes more t)))
  where
    none : StartsWithNoChar (bytes ++ more)
    none c rest s e = elim (cases_lt (length bytes) (length (encode c))) [
      | inl shorter ↦
          let prefix : bytes ≡ take (length bytes) (encode c) = sym (take_at bytes more (length bytes) refl) ∙ ap (take (length bytes)) e ∙ take-append-le (length bytes) (encode c) rest (omega arith) in
          let held : IsTrue (is_incomplete_or_empty bytes) = elim (cases_lt 0 (length bytes)) [
            | inl some ↦ incomplete_is_held bytes (subst (λ b. IsTrue (is_incomplete_sequence b)) (sym prefix) (prefix_is_incomplete c (length bytes) s some shorter))
            | inr empty ↦ ap (λ b. is_incomplete_or_empty b) (nil_from_length bytes (omega arith))
          ] in
          false≢true (sym h.1 ∙ held)
      | inr longer ↦ h.0 c (drop (length (encode c)) bytes) s (prefix_in bytes more (encode c) rest e longer)
    ]

pub ill_some : (bytes : List ℕ) → IsIllFormed bytes → 0 < length bytes
ill_some [] h = absurd (false≢true (sym h.1))
ill_some (x ∷ bytes) h = omega arith

-- ---- an incomplete sequence, made whole

-- the least second byte may stand second
least_second : (x : ℕ) → is_in_range (second_byte_min x) (second_byte_max x) (second_byte_min x) ≡ true
least_second x = let k = least_is x in let m = most_is x in is_in (second_byte_min x) (second_byte_max x) (second_byte_min x) (omega arith) (omega arith)

after_two : (x y : ℕ) → 0xE0 ≤ x → x ≤ 0xF4 → is_in_range (second_byte_min x) (second_byte_max x) y ≡ true → (more : List ℕ) × (c : ℕ) × (0 < length more) × SpellsCharacter (x ∷ y ∷ more) c
after_two x y l h e = elim (cases_lt x 0xF0) [
  | inl s ↦ (0x80 ∷ [], _, omega arith, spells_three x y 0x80 l s e (omega arith) (omega arith))
  | inr s ↦ (0x80 ∷ 0x80 ∷ [], _, omega arith, spells_four x y 0x80 0x80 s h e (omega arith) (omega arith) (omega arith) (omega arith))
]

pub incomplete_begins : (bytes : List ℕ) → IsTrue (is_incomplete_sequence bytes) → BeginsCharacter bytes
incomplete_begins [] h = absurd (false≢true h)
incomplete_begins (x ∷ []) h =
    let p = in_range 0xC2 0xF4 x h in
    let y = second_byte_min x in
    elim (cases_lt x 0xE0) [
      | inl s ↦ (omega arith, y ∷ [], _, omega arith, spells_two x y p.0 s (least_second x))
      | inr s ↦ let w = after_two x y s p.1 (least_second x) in (omega arith, y ∷ w.0, w.1, omega arith, w.3)
    ]
incomplete_begins (x ∷ y ∷ []) h = let p = incomplete_two x y h in let w = after_two x y p.0 p.1 p.2 in (omega arith, w.0, w.1, w.2, w.3)
incomplete_begins (x ∷ y ∷ z ∷ []) h =
    let p = incomplete_three x y z h in
    let r = in_range 0x80 0xBF z p.3 in
    (omega arith, 0x80 ∷ [], _, omega arith, spells_four x y z 0x80 p.0 p.1 p.2 (omega arith) (omega arith) (omega arith) (omega arith))
incomplete_begins (x ∷ y ∷ z ∷ w ∷ rest) h = absurd (false≢true h)

pub begins_incomplete : (bytes : List ℕ) → BeginsCharacter bytes → IsTrue (is_incomplete_sequence bytes)
begins_incomplete bytes h =
    let more = h.1 in
    let c = h.2 in
    let spelt = h.4 in
    let prefix : bytes ≡ take (length bytes) (encode c) = sym (take_at bytes more (length bytes) refl) ∙ ap (take (length bytes)) spelt.1 in
    let some = h.3 in
    let long = ap length spelt.1 in
    subst (λ b. IsTrue (is_incomplete_sequence b)) (sym prefix) (prefix_is_incomplete c (length bytes) spelt.0 h.0 (omega (arith, length-append bytes more)))
