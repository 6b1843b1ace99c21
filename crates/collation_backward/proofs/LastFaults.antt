-- From which offsets on the rest of a text is read by itself, and the last fault of a text.
use Rattle.std.specs.Char.{IsScalar, len_utf8, encode_utf8}
use Rattle.std.specs.Str.{chars, IsUtf8, all_scalars}
use Rattle.std.proofs.Common.{◌≡◌, ◌⊎◌, ◌∙◌, ℕ, ◌+◌, ◌-◌, ◌<◌, ◌≤◌, ◌==◌, ◌&&◌, ◌||◌, Bool, true, false, nat_lt, List, [], ◌∷◌, ◌++◌, length, take, drop, flat_map, encode_utf8_all, Option, Some, None, is_some, refl, sym, ap, subst, arith, inl, inr, append_assoc, length-append}
use Rattle.std.proofs.lemmas.Bool.{cases_Bool, cases_lt, and_parts, and_from, or_left, or_right, le-ltb, false≢true, eqb-true, eq-eqb}
use Rattle.std.proofs.lemmas.List.{take_at, take-append-drop, take_all, drop-drop, drop_all, length-drop, length-take-le, append-nil}
use Rattle.std.proofs.lemmas.Option.{none-some}
use Rattle.std.proofs.lemmas.Str.{length-encode, len_utf8_bounds, IsUtf8-append, IsUtf8-encode, encodes-chars, scalars-chars, chars-append}
use Rattle.std.proofs.Math.Utf8.{scalar}
use Rattle.utf8_cut.specs.Characters.{characters, characters_end, characters_from, with_offsets, is_incomplete_or_empty, is_utf8_prefix}
use Rattle.utf8_cut.specs.Sequences.{SpellsCharacter}
use Rattle.utf8_cut.proofs.CharactersLemmas.{characters_from-append}
use Rattle.utf8_cut.proofs.TextLemmas.{one_char}
use Rattle.nfd_points.specs.declared.points.Point.{Point}
use Rattle.nfd_points.specs.Laws.{DecompositionsAreShort, FewPointsAreGood, StartersBeginAnew}
use Rattle.nfd_points.specs.Points.{points_of, points_from, decomposition, begins_with_starter, is_starter}
use Rattle.nfd_points.specs.PointFaults.{point_fault}
use Rattle.collation_table.specs.Table.{TableMap}
use Rattle.collation_matches.specs.declared.faults.TextFault.{TextFault}
use Rattle.collation_matches.specs.GoodPrefix.{most_bytes, fault, good_prefix, prefix_at, whole, is_good_so_far}
use Rattle.collation_matches.proofs.LagTexts.{TextLaws, fault_after}
use Rattle.collation_matches.proofs.SearchLemmas.{good_prefix_found, whole_of_text}
use Rattle.collation_matches.proofs.TextCheckLemmas.{open_from}
use Rattle.collation_safe.specs.Safe.{IsSafeOffset, begins_safely, is_safe_character, is_safe_code_point}
use Rattle.collation_safe.proofs.Standing.{CharacterStandsAt, stands-from}
use Rattle.collation_backward.specs.Ending.{is_first_safe, starts_safely}

-- ---- where a safe character stands first

spelled-first : (c : ℕ) (rest : List ℕ) → IsScalar c → characters (encode_utf8 c ++ rest) ≡ (c, 0) ∷ characters_from (0 + length (encode_utf8 c)) rest
spelled-first c rest s =
    let one = one_char (encode_utf8 c) c (s, refl) in
    characters_from-append 0 (encode_utf8 c) rest (IsUtf8-encode c s)
    ∙ ap (λ (cs : List ℕ). with_offsets 0 cs ++ characters_from (0 + length (encode_utf8 c)) rest) one.1

pub alone-begins : (table : TableMap) (text : List ℕ) (at : ℕ) → IsSafeOffset table text at → starts_safely table (drop at text) ≡ true
alone-begins table text at o =
    let c = o.character in
    let rest = drop at text in
    let parts : rest ≡ encode_utf8 c ++ drop (len_utf8 c) rest = sym (take-append-drop (len_utf8 c) rest) ∙ ap (λ (t : List ℕ). t ++ drop (len_utf8 c) rest) o.whole.1 in
    ap (λ (t : List ℕ). is_first_safe table (characters t)) parts
    ∙ ap (is_first_safe table) (spelled-first c (drop (len_utf8 c) rest) o.whole.0)
    ∙ o.safe

first-alone : (table : TableMap) (bytes : List ℕ) (cs : List ℕ) → chars (take (characters_end bytes) bytes) ≡ cs → IsUtf8 (take (characters_end bytes) bytes) → is_first_safe table (with_offsets 0 cs) ≡ true →
    (c : ℕ) × SpellsCharacter (take (len_utf8 c) bytes) c × (is_safe_character table c ≡ true)
first-alone table bytes [] is utf8 safe = absurd (false≢true safe)
first-alone table bytes (c ∷ cs) is utf8 safe =
    let front = take (characters_end bytes) bytes in
    let back = drop (characters_end bytes) bytes in
    let spelled : encode_utf8_all (c ∷ cs) ≡ front = ap encode_utf8_all (sym is) ∙ encodes-chars front utf8 in
    let all : bytes ≡ encode_utf8 c ++ (encode_utf8_all cs ++ back) =
    sym (take-append-drop (characters_end bytes) bytes) ∙ ap (λ (t : List ℕ). t ++ back) (sym spelled) ∙ append_assoc (encode_utf8 c) (encode_utf8_all cs) back in
    let scalars : all_scalars (c ∷ cs) ≡ true = ap all_scalars (sym is) ∙ scalars-chars front utf8 in
    (c, ((and_parts (scalar c) (all_scalars cs) scalars).0, ap (take (len_utf8 c)) all ∙ take_at (encode_utf8 c) (encode_utf8_all cs ++ back) (len_utf8 c) (length-encode c)), safe)

pub begins-alone : TextLaws → (table : TableMap) (text : List ℕ) (at : ℕ) → starts_safely table (drop at text) ≡ true → IsSafeOffset table text at
begins-alone laws table text at safe =
    let bytes = drop at text in
    let found = first-alone table bytes (chars (take (characters_end bytes) bytes)) refl (laws.text bytes) safe in
    record { character = found.0; whole = found.1; safe = found.2 }

-- ---- no fault stands at a safe character

-- the laws of the lower crates that this rests on
pub record StarterLaws : Type 0 where
  pub texts : TextLaws
  pub anew : StartersBeginAnew
  pub few : FewPointsAreGood
  pub short : DecompositionsAreShort

starter-first : (table : TableMap) (ps rest : List Point) → begins_safely table ps ≡ true → begins_with_starter (ps ++ rest) ≡ true
starter-first table [] rest h = absurd (false≢true h)
starter-first table (p ∷ ps) rest h = (and_parts (is_starter p) (is_safe_code_point table p.cp) h).0

one-begins : (table : TableMap) (c : ℕ) → is_safe_character table c ≡ true → begins_with_starter (points_from 0 (c ∷ [])) ≡ true
unfolding points_from
one-begins table c safe = starter-first table (points_of 0 c) [] safe

one-good : StarterLaws → (c : ℕ) → point_fault (c ∷ []) ≡ None
one-good laws c =
    let short = (laws.short c).1 in
    let joined = ap length (append-nil (decomposition c)) in
    laws.few (c ∷ []) (omega (arith, short, joined))

pub not-at-fault : StarterLaws → (table : TableMap) (bytes : List ℕ) (at : ℕ) (f : TextFault) → length bytes ≤ most_bytes → IsSafeOffset table bytes at → fault bytes ≡ Some f → f.offset ≡ at → ⊥
not-at-fault laws table bytes at f few o h same =
    let c = o.character in
    let E = encode_utf8 c in
    let s = stands-from bytes at c o.whole in
    let found = good_prefix_found laws.texts.text laws.texts.within bytes f h in
    let front : found.0 ≡ s.front = sym found.1.taken ∙ ap (λ n. take n bytes) same ∙ ap (take at) s.parts ∙ take_at s.front (E ++ s.back) at s.front_len in
    let utf8 : IsUtf8 s.front = subst IsUtf8 front found.1.text in
    let sound : point_fault (chars s.front) ≡ None = subst (λ (t : List ℕ). point_fault (chars t) ≡ None) front found.1.sound in
    let one = one_char E c (s.scalar, refl) in
    let taken = s.front ++ E in
    let text : IsUtf8 taken = IsUtf8-append s.front E utf8 (IsUtf8-encode c s.scalar) in
    let codes : chars taken ≡ chars s.front ++ c ∷ [] = chars-append s.front E utf8 ∙ ap (λ (cs : List ℕ). chars s.front ++ cs) one.1 in
    let good : point_fault (chars taken) ≡ None = ap point_fault codes ∙ laws.anew (chars s.front) (c ∷ []) (one-begins table c o.safe) sound (one-good laws c) in
    let parts : bytes ≡ taken ++ s.back = s.parts ∙ sym (append_assoc s.front E s.back) in
    let len = length-append s.front E in
    let front_len = s.front_len in
    let some = (len_utf8_bounds c).0 in
    let spelled = length-encode c in
    let total = ap (λ (t : List ℕ). length t) parts ∙ length-append taken s.back in
    let whole_taken = whole_of_text laws.texts.longest taken text in
    let end = laws.texts.longest taken (length taken) (omega arith) (subst IsUtf8 (sym (take_all (length taken) taken (omega arith))) text) in
    let prefix : is_utf8_prefix taken ≡ true = ap is_incomplete_or_empty (drop_all (characters_end taken) taken end) in
    let goes_on : is_good_so_far taken ≡ true = open_from taken (omega (arith, few, total)) prefix (ap (λ (t : List ℕ). point_fault (chars t)) whole_taken ∙ good) in
    let after = fault_after laws.texts taken s.back f goes_on (ap fault (sym parts) ∙ h) in
    absurd (omega (arith, after, end, len, front_len, some, spelled, same))
