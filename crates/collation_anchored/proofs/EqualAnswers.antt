-- From what a comparison says to the answer.
use Rattle.std.specs.Str.{IsUtf8}
use Rattle.std.proofs.Common.{◌≡◌, ◌≤◌, ◌∙◌, ℕ, Bool, true, false, ◌==◌, List, length, take, Option, Some, None, Ok, Err, refl, sym, ap, arith, inl, inr}
use Rattle.std.proofs.lemmas.Bool.{cases_Bool, eqb-true, eqb-false}
use Rattle.std.proofs.lemmas.List.{take_all, length-take-le}
use Rattle.collation_table.specs.Table.{TableMap}
use Rattle.collation_elements.specs.declared.keys.Key.{Key}
use Rattle.collation_elements.specs.declared.settings.Variable.{Variable}
use Rattle.collation_elements.specs.declared.settings.Strength.{Strength}
use Rattle.collation_pattern.specs.KeyLaw.{KeyLaw}
use Rattle.collation_pattern.specs.Levels.{text_keys}
use Rattle.collation_matches.specs.declared.faults.TextFault.{TextFault}
use Rattle.collation_anchored.specs.Anchored.{is_begun, is_equal}
use Rattle.collation_anchored.specs.Answers.{unless_fault}
use Rattle.collation_anchored.proofs.BegunKeys.{begun-from}
use Rattle.collation_anchored.proofs.EqualTexts.{equal_is, equal_from}

-- ---- what is answered

-- a fault, before which the keys are the first of the pattern's
pub fault_answers : (begun : Bool) (fault : Option TextFault) (f : TextFault) (answer : Bool) → begun ≡ true → fault ≡ Some f → Err f ≡ unless_fault begun fault answer
fault_answers begun fault f answer h is = sym (ap (λ (b : Bool). unless_fault b fault answer) h ∙ ap (λ (o : Option TextFault). unless_fault true o answer) is)

-- no fault
pub whole_answers : (begun : Bool) (fault : Option TextFault) (answer : Bool) → fault ≡ None → Ok answer ≡ unless_fault begun fault answer
whole_answers true fault answer none = sym (ap (λ (o : Option TextFault). unless_fault true o answer) none)
whole_answers false fault answer none = refl

-- the keys differ, and so the answer is no
pub apart_answers : (begun : Bool) (fault : Option TextFault) (answer : Bool) → begun ≡ false → answer ≡ false → Ok false ≡ unless_fault begun fault answer
apart_answers true fault answer h e = cc
apart_answers false fault answer h e = ap (λ b. Ok b) (sym e)

-- ---- equal keys

-- whether a text is equal, by its keys
pub keys_of_equal : (table : TableMap) → KeyLaw table → (strength : Strength) (variable : Variable) (p text : List ℕ) → IsUtf8 p → IsUtf8 text →
    is_equal table strength variable p text ≡ true → text_keys table strength variable p ≡ text_keys table strength variable text
keys_of_equal table law strength variable p text utf8_p utf8_text h = (law strength variable p text utf8_p utf8_text).0 (equal_is table strength variable p text h)

pub equal_of_keys : (table : TableMap) → KeyLaw table → (strength : Strength) (variable : Variable) (p text : List ℕ) → IsUtf8 p → IsUtf8 text →
    text_keys table strength variable p ≡ text_keys table strength variable text → is_equal table strength variable p text ≡ true
equal_of_keys table law strength variable p text utf8_p utf8_text e = equal_from table strength variable p text ((law strength variable p text utf8_p utf8_text).1 e)

-- where its keys are the first so many of the pattern's, it is where these are all
pub equal_by_count : (table : TableMap) → KeyLaw table → (strength : Strength) (variable : Variable) (p text : List ℕ) (ks : List Key) (matched : ℕ) → IsUtf8 p → IsUtf8 text →
    ks ≡ text_keys table strength variable p → text_keys table strength variable text ≡ take matched ks → matched ≤ length ks →
    (matched == length ks) ≡ is_equal table strength variable p text
equal_by_count table law strength variable p text ks matched utf8_p utf8_text compiled keys within =
    elim (cases_Bool (matched == length ks)) [
      | inl all ↦
          let count = eqb-true matched (length ks) all in
          let same = take_all matched ks (omega (arith, count)) in
          all ∙ sym (equal_of_keys table law strength variable p text utf8_p utf8_text (sym compiled ∙ sym same ∙ sym keys))
      | inr fewer ↦
          elim (cases_Bool (is_equal table strength variable p text)) [
            | inr other ↦ fewer ∙ sym other
            | inl equal ↦
                let same = keys_of_equal table law strength variable p text utf8_p utf8_text equal in
                let count = sym (length-take-le matched ks within) ∙ ap length (sym keys ∙ sym same ∙ sym compiled) in
                absurd (eqb-false matched (length ks) fewer count)
          ]
    ]

-- and where they are not, it is not
pub not_equal : (table : TableMap) → KeyLaw table → (strength : Strength) (variable : Variable) (p text : List ℕ) (ks : List Key) → IsUtf8 p → IsUtf8 text →
    ks ≡ text_keys table strength variable p → is_begun ks (text_keys table strength variable text) ≡ false → is_equal table strength variable p text ≡ false
not_equal table law strength variable p text ks utf8_p utf8_text compiled apart =
    elim (cases_Bool (is_equal table strength variable p text)) [
      | inr other ↦ other
      | inl equal ↦
          let same = keys_of_equal table law strength variable p text utf8_p utf8_text equal in
          let begun : is_begun ks ks ≡ true = begun-from ks ks (take_all (length ks) ks (omega arith)) in
          let both : true ≡ false = sym begun ∙ ap (is_begun ks) (compiled ∙ same) ∙ apart in cc
    ]
