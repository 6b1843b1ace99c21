-- The character at the front of bytes: what the front bytes are with the first of the later ones, or without any.
use Rattle.std.proofs.Common.{◌≡◌, ℕ, ◌+◌, ◌<◌, ◌≤◌, List, [], ◌∷◌, ◌++◌, length, get_or, slice_index_or, refl, sym, ap, ◌∙◌, subst, arith, append_assoc, append-nil, length-append}
use Rattle.std.specs.Prelude.{IsTrue, Some}
use Rattle.std.proofs.lemmas.Bool.{false≢true}
use Rattle.std.proofs.lemmas.List.{take_at, nil_from_length}
use Rattle.std.proofs.lemmas.Str.{length-encode}
use Rattle.std.specs.Char.{len_utf8}
use Rattle.std.specs.Str.{StartsWithNoChar}
use Rattle.utf8_cut.specs.declared.sequence.Form.{Form}
use Rattle.utf8_cut.specs.declared.sequence.Form.TheVariants.{WellFormed, Incomplete, IllFormed}
use Rattle.utf8_cut.specs.Characters.{is_incomplete_sequence}
use Rattle.utf8_cut.specs.Sequences.{SpellsCharacter, IsIllFormed, IsForm, IsFirstCharacter}
use Rattle.utf8_cut.proofs.TableLemmas.{incomplete_no_char, ill_stays}

spelt_before : (bytes more : List ℕ) (c : ℕ) → SpellsCharacter bytes c → IsFirstCharacter (bytes ++ more) (Some (c, length bytes))
spelt_before bytes more c s =
    let long : length bytes ≡ len_utf8 c = ap length s.1 ∙ length-encode c in
    (long, (omega (arith, long, length-append bytes more), (s.0, take_at bytes more (len_utf8 c) long ∙ s.1)))

pub first_whole : (front later : List ℕ) (c : ℕ) → 1 ≤ length later → SpellsCharacter (front ++ slice_index_or later 0 0 ∷ []) c → IsFirstCharacter (front ++ later) (Some (c, length front + 1))
first_whole front [] c some s = absurd (omega arith)
first_whole front (b ∷ bs) c some s = subst (λ l. IsFirstCharacter l (Some (c, length front + 1))) (append_assoc front (b ∷ []) bs)
    (subst (λ n. IsFirstCharacter ((front ++ b ∷ []) ++ bs) (Some (c, n))) (length-append front (b ∷ [])) (spelt_before (front ++ b ∷ []) bs c s))

pub first_three : (bytes : List ℕ) (c : ℕ) → 3 ≤ length bytes → SpellsCharacter (get_or bytes 0 0 ∷ get_or bytes 1 0 ∷ get_or bytes 2 0 ∷ []) c → IsFirstCharacter bytes (Some (c, 3))
first_three [] c within s = absurd (omega (arith, within))
first_three (x ∷ []) c within s = absurd (omega (arith, within))
first_three (x ∷ y ∷ []) c within s = absurd (omega (arith, within))
first_three (x ∷ y ∷ z ∷ rest) c within s = spelt_before (x ∷ y ∷ z ∷ []) rest c s

pub first_ill : (front later : List ℕ) → 1 ≤ length later → IsIllFormed (front ++ slice_index_or later 0 0 ∷ []) → StartsWithNoChar (front ++ later)
first_ill front [] some h = absurd (omega arith)
first_ill front (b ∷ bs) some h = subst StartsWithNoChar (append_assoc front (b ∷ []) bs) (ill_stays (front ++ b ∷ []) bs h).0

pub first_cut : (front later : List ℕ) → length later < 1 → IsTrue (is_incomplete_sequence front) → StartsWithNoChar (front ++ later)
first_cut front later none h = subst (λ l. StartsWithNoChar (front ++ l)) (sym (nil_from_length later (omega arith))) (subst StartsWithNoChar (sym (append-nil front)) (incomplete_no_char front h))

-- four bytes are a character or ill-formed
pub first_of_four : (x y z : ℕ) (later : List ℕ) (form : Form) → 1 ≤ length later → IsForm (x ∷ y ∷ z ∷ slice_index_or later 0 0 ∷ []) form → ((c : ℕ) → form ≡ WellFormed c → ⊥) → StartsWithNoChar (x ∷ y ∷ z ∷ later)
first_of_four x y z later (WellFormed c) some h not = absurd (not c refl)
first_of_four x y z later Incomplete some h not = absurd (false≢true h)
first_of_four x y z later IllFormed some h not = first_ill (x ∷ y ∷ z ∷ []) later some h
