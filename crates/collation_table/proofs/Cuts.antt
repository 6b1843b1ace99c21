-- A list cut at the first of some byte, against the list of all its parts.
use Rattle.std.proofs.Common.{◌≡◌, ℕ, ◌+◌, ◌<◌, Bool, true, false, cond, ltb, eqb, List, [], ◌∷◌, length, take, drop, Option, Some, None, option_map, refl, sym, ap, ◌∙◌, arith, length-drop}
use Rattle.std.specs.List.{slice_split, position, position_or_len, onto_first}
use Rattle.std.proofs.lemmas.List.Splits.{slice_split_first, slice_split_none}
use Rattle.std.proofs.lemmas.List.Sums.{fails_before_first, position_or_len_is}
use Rattle.std.proofs.lemmas.Bool.{ltb-true, ltb-false, lt-ltb, le-ltb, false_from_ne_true}
use Rattle.std.proofs.lemmas.Option.{some_pair_parts, none-some}
use Rattle.memchr.specs.Find.{IsFirstByte, is_byte}
use Rattle.collation_table.specs.Spelling.{split_once}

-- the parts of a list between the bytes c
abbrev pub parts : ℕ → List ℕ → List (List ℕ)
parts c bytes = slice_split (λ b. eqb b c) bytes

-- a list is cut in two at its first c
pub record IsCutAtFirst (c : ℕ) (bytes prefix following : List ℕ) : Type 0 where
  pub parts_are : parts c bytes ≡ prefix ∷ parts c following
  pub shorter : length following < length bytes

abbrev place : ℕ → List ℕ → ℕ
place c bytes = position_or_len (λ b. eqb b c) bytes

abbrev halves : List ℕ → ℕ → List ℕ × List ℕ
halves bytes i = (take i bytes, drop (i + 1) bytes)

cut_by : (t : Bool) (c : ℕ) (bytes prefix following : List ℕ) → ltb (place c bytes) (length bytes) ≡ t → option_map (halves bytes) (cond t (Some (place c bytes)) None) ≡ Some (prefix, following) → IsCutAtFirst c bytes prefix following
cut_by true c bytes prefix following h e =
    let two = some_pair_parts (take (place c bytes) bytes) prefix (drop (place c bytes + 1) bytes) following e in
    let within = ltb-true (place c bytes) (length bytes) h in
    let first = slice_split_first (λ b. eqb b c) bytes 0 within in
    record {
      parts_are = first ∙ ap (λ x. x ∷ parts c (drop (place c bytes + 1) bytes)) two.0 ∙ ap (λ y. prefix ∷ parts c y) two.1;
      shorter = omega (arith, length-drop (place c bytes + 1) bytes, ap length two.1);
    }
cut_by false c bytes prefix following h e = absurd (none-some (prefix, following) e)

-- what a cut gives
pub IsCut-from_some : (c : ℕ) (bytes prefix following : List ℕ) → split_once c bytes ≡ Some (prefix, following) → IsCutAtFirst c bytes prefix following
IsCut-from_some c bytes prefix following e = cut_by (ltb (place c bytes) (length bytes)) c bytes prefix following refl e

uncut_by : (t : Bool) (c : ℕ) (bytes : List ℕ) → ltb (place c bytes) (length bytes) ≡ t → option_map (halves bytes) (cond t (Some (place c bytes)) None) ≡ None → parts c bytes ≡ bytes ∷ []
uncut_by true c bytes h e = absurd (none-some (halves bytes (place c bytes)) (sym e))
uncut_by false c bytes h e =
    let past = ltb-false (place c bytes) (length bytes) h in
    slice_split_none (λ b. eqb b c) bytes (λ k d below. fails_before_first (λ b. eqb b c) bytes k d (omega arith))

-- with nothing to cut at, the list is its one part
pub parts-from_none : (c : ℕ) (bytes : List ℕ) → split_once c bytes ≡ None → parts c bytes ≡ bytes ∷ []
parts-from_none c bytes e = uncut_by (ltb (place c bytes) (length bytes)) c bytes refl e

-- there is always a part
some_onto : (b : ℕ) (ps : List (List ℕ)) → (first : List ℕ) × (more : List (List ℕ)) × (onto_first b ps ≡ first ∷ more)
some_onto b [] = (b ∷ [], [], refl)
some_onto b (p ∷ ps) = (b ∷ p, ps, refl)

some_of_two : (t : Bool) (b : ℕ) (ps : List (List ℕ)) → (first : List ℕ) × (more : List (List ℕ)) × (cond t ([] ∷ ps) (onto_first b ps) ≡ first ∷ more)
some_of_two true b ps = ([], ps, refl)
some_of_two false b ps = some_onto b ps

pub some_part : (c : ℕ) (bytes : List ℕ) → (first : List ℕ) × (more : List (List ℕ)) × (parts c bytes ≡ first ∷ more)
some_part c [] = ([], [], refl)
some_part c (b ∷ bytes) = some_of_two (eqb b c) b (parts c bytes)

-- a search for a byte gives the first place where it stands
pub position-from_first : (c : ℕ) (bytes : List ℕ) (found : Option ℕ) → IsFirstByte (is_byte c) bytes found → found ≡ position (λ b. eqb b c) bytes
position-from_first c bytes None nowhere =
    let past : position_or_len (λ b. eqb b c) bytes ≡ length bytes = position_or_len_is (λ b. eqb b c) bytes (length bytes) 0 (omega arith) (λ k below. false_from_ne_true _ (nowhere k (omega arith) below)) (λ below. absurd (omega arith)) in
    ap (λ t. cond t (Some (place c bytes)) None) (sym (le-ltb (place c bytes) (length bytes) (omega arith)))
position-from_first c bytes (Some at) found =
    let within : at < length bytes = found.0.high in
    let first : position_or_len (λ b. eqb b c) bytes ≡ at = position_or_len_is (λ b. eqb b c) bytes at 0 (omega arith) (λ k below. false_from_ne_true _ (found.0.before k (omega arith) below)) (λ below. found.1) in
    ap Some (sym first) ∙ ap (λ t. cond t (Some (place c bytes)) None) (sym (lt-ltb (place c bytes) (length bytes) (omega arith)))
