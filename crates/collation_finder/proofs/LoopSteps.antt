-- A walk over the characters at the front of a piece comes further.
use Rattle.std.specs.Char.{len_utf8}
use Rattle.std.specs.Str.{chars, IsUtf8}
use Rattle.std.proofs.Common.{◌≡◌, ◌∙◌, ℕ, ◌+◌, ◌-◌, true, ◌≤◌, List, [], ◌∷◌, ◌++◌, length, take, drop, sym, ap, subst, arith, append_assoc}
use Rattle.std.proofs.lemmas.List.{length-drop}
use Rattle.std.proofs.lemmas.Str.{IsUtf8-nil, chars-nil}
use Rattle.utf8_cut.specs.Sequences.{SpellsCharacter}
use Rattle.nfd_points.specs.Points.{byte_len, points_of, begins_with_starter}
use Rattle.collation_table.specs.Table.{TableMap}
use Rattle.collation_elements.specs.Units.{units}
use Rattle.collation_pattern.specs.Compiled.{Compiled}
use Rattle.collation_letters.specs.Apart.{IsNext}
use Rattle.collation_letters.specs.Letters.{ordered_from}
use Rattle.collation_walk.specs.declared.matching.Matcher.{Matcher}
use Rattle.collation_elements.specs.Windows.{Held}
use Rattle.nfd_points.specs.Reordering.{Waiting}
use Rattle.collation_finder.specs.TakenAtOnce.{CanBeTakenAtOnce, IsPausedBefore}
use Rattle.collation_walk.specs.Walked.{HasWalkedOn}
use Rattle.collation_finder.specs.LetterRun.{AreNext, HasComeTo}
use Rattle.collation_letters.specs.Laws.{LetterLaws}
use Rattle.collation_finder.proofs.TakenAtOnceLemmas.{apart-none, apart-more, units-apart, ordered_none}
use Rattle.collation_finder.proofs.CharacterLemmas.{on-none, on-more, text-part, chars-len, chars-more, one_char, spells-after}
use Rattle.collation_finder.proofs.PauseLemmas.{paused-on}

-- nothing so far
pub come-none : LetterLaws → (table : TableMap) (pattern : Compiled) (piece : List ℕ) (offset reach first : ℕ) (matcher : Matcher) → len_utf8 first ≤ length piece → SpellsCharacter (take (len_utf8 first) piece) first →
    begins_with_starter (points_of offset first) ≡ true → HasComeTo table pattern piece offset reach first matcher matcher 0 first []
come-none laws table pattern piece offset reach first matcher within spelled begins =
    let none : ordered_from offset (chars (take 0 piece)) ≡ [] = ap (ordered_from offset) chars-nil ∙ ordered_none offset in
    record {
      near = omega arith;
      within = omega (arith, within);
      next = spelled;
      text = IsUtf8-nil;
      begun = ([], ap (λ (cs : List ℕ). cs ++ first ∷ []) chars-nil);
      apart = subst (λ (cs : List ℕ). CanBeTakenAtOnce table offset cs first) (sym chars-nil) (apart-none laws table offset first begins);
      walked = on-none table pattern matcher (units table (ordered_from offset (chars (take 0 piece)))) (ap (units table) none);
    }

joined : (cs others : List ℕ) (c next : ℕ) → (cs ++ c ∷ others) ++ next ∷ [] ≡ (cs ++ c ∷ []) ++ (others ++ next ∷ [])
joined cs others c next = append_assoc cs (c ∷ others) (next ∷ []) ∙ sym (append_assoc cs (c ∷ []) (others ++ next ∷ []))

-- and the next characters
pub come-further : LetterLaws → (table : TableMap) (pattern : Compiled) (piece : List ℕ) (offset reach first at to c next : ℕ) (m m₁ m₂ : Matcher) (ranges found : List (ℕ × ℕ)) →
    HasComeTo table pattern piece offset reach first m m₁ at c ranges → AreNext table piece offset reach at to c next →
    HasWalkedOn table pattern m₁ m₂ (units table (ordered_from (offset + at) (chars (take (to - at) (drop at piece))))) found →
    HasComeTo table pattern piece offset reach first m m₂ to next (ranges ++ found)
come-further laws table pattern piece offset reach first at to c next m m₁ m₂ ranges found h n goes =
    let cs = chars (take at piece) in
    let more = chars (take (to - at) (drop at piece)) in
    let upto = text-part piece at to n.forth h.text n.part in
    let bytes : offset + byte_len cs ≡ offset + at = omega (arith, chars-len piece at (omega (arith, h.within)) h.text) in
    let ends : IsNext table (offset + byte_len cs) more next = subst (λ k. IsNext table k more next) (sym bytes) n.ends in
    let cut : units table (ordered_from offset (chars (take to piece))) ≡ units table (ordered_from offset cs) ++ units table (ordered_from (offset + at) more) =
    ap (λ (t : List ℕ). units table (ordered_from offset t)) upto.1 ∙ units-apart laws table offset c cs n.first.0 more n.first.1 h.apart
    ∙ ap (λ k. units table (ordered_from offset cs) ++ units table (ordered_from k more)) bytes in
    record {
      near = n.near;
      within = n.within;
      next = n.spelled;
      text = upto.0;
      begun = (
        h.begun.0 ++ (n.first.0 ++ next ∷ []),
        ap (λ (t : List ℕ). t ++ next ∷ []) (upto.1 ∙ ap (λ (t : List ℕ). cs ++ t) n.first.1) ∙ joined cs n.first.0 c next ∙ ap (λ (t : List ℕ). t ++ (n.first.0 ++ next ∷ [])) h.begun.1,
      );
      apart = subst (λ (t : List ℕ). CanBeTakenAtOnce table offset t next) (sym upto.1) (apart-more laws table offset c next cs n.first.0 more n.first.1 h.apart ends);
      walked = on-more table pattern m m₁ m₂
          (units table (ordered_from offset cs)) (units table (ordered_from (offset + at) more)) (units table (ordered_from offset (chars (take to piece)))) ranges found cut h.walked goes;
    }

-- characters of which `rest` begins with the first n bytes
pub next-n : (table : TableMap) (piece rest : List ℕ) (offset reach at c n next : ℕ) → rest ≡ drop at piece → at ≤ reach → n ≤ reach - at → n + len_utf8 next ≤ length rest →
    SpellsCharacter (take (len_utf8 next) (drop n rest)) next → IsUtf8 (take n rest) → (others : List ℕ) × (chars (take n rest) ≡ c ∷ others) → IsNext table (offset + at) (chars (take n rest)) next →
    1 ≤ len_utf8 next → AreNext table piece offset reach at (at + n) c next
next-n table piece rest offset reach at c n next same near few within spelled text first ends some =
    let count : n ≡ (at + n) - at = omega arith in
    let part : take n rest ≡ take ((at + n) - at) (drop at piece) = ap (take n) same ∙ ap (λ k. take k (drop at piece)) count in
    record {
      forth = omega arith;
      near = omega (arith, near, few);
      within = omega (arith, within, ap length same, length-drop at piece, some);
      spelled = spells-after piece at n next (subst (λ (r : List ℕ). SpellsCharacter (take (len_utf8 next) (drop n r)) next) same spelled);
      part = subst IsUtf8 part text;
      first = (first.0, ap chars (sym part) ∙ first.1);
      ends = subst (λ (t : List ℕ). IsNext table (offset + at) (chars t) next) part ends;
    }

-- ---- behind a pause

-- where it began at a pause, all units up to the character to which it came were cut
pub come-paused : LetterLaws → (table : TableMap) (pattern : Compiled) (piece : List ℕ) (offset reach first at next : ℕ) (m m' : Matcher) (found : List (ℕ × ℕ)) (waiting : Waiting) (window : Held)
    (taken : List ℕ) (ranges : List (ℕ × ℕ)) → HasComeTo table pattern piece offset reach first m m' at next found → IsPausedBefore table pattern waiting window m taken ranges first →
    offset ≡ byte_len taken → IsPausedBefore table pattern waiting window m' (taken ++ chars (take at piece)) (ranges ++ found) next
come-paused laws table pattern piece offset reach first at next m m' found waiting window taken ranges e paused place =
    let cs = chars (take at piece) in
    let run : CanBeTakenAtOnce table (byte_len taken) cs next = subst (λ k. CanBeTakenAtOnce table k cs next) place e.apart in
    let on : HasWalkedOn table pattern m m' (units table (ordered_from (byte_len taken) cs)) found =
    subst (λ k. HasWalkedOn table pattern m m' (units table (ordered_from k cs)) found) place e.walked in
    paused-on laws table pattern waiting window m m' taken cs first next e.begun.0 ranges found e.begun.1 paused run on

-- the character at a place of a piece
pub last_spelled : (piece : List ℕ) (at n c : ℕ) → n ≡ len_utf8 c → SpellsCharacter (take (len_utf8 c) (drop at piece)) c → IsUtf8 (take n (drop at piece)) × (chars (take n (drop at piece)) ≡ c ∷ [])
last_spelled piece at n c len spelled =
    let one = one_char (take (len_utf8 c) (drop at piece)) c spelled in
    (subst (λ k. IsUtf8 (take k (drop at piece))) (sym len) one.0, ap (λ k. chars (take k (drop at piece))) len ∙ one.1)

-- with that character
pub codes-on : (piece taken : List ℕ) (at n c : ℕ) → n ≡ len_utf8 c → IsUtf8 (take at piece) → SpellsCharacter (take (len_utf8 c) (drop at piece)) c →
    (taken ++ chars (take at piece)) ++ c ∷ [] ≡ taken ++ chars (take (at + n) piece)
codes-on piece taken at n c len text spelled =
    let cs = chars (take at piece) in
    append_assoc taken cs (c ∷ [])
    ∙ ap (λ (t : List ℕ). taken ++ t) (sym (chars-more piece at n text ∙ ap (λ (t : List ℕ). cs ++ t) (last_spelled piece at n c len spelled).1))
