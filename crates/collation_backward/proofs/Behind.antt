-- Where the rest from a place says that there is nothing up to an offset, so does the rest from each safe offset behind the place.
use Rattle.std.proofs.Common.{◌≡◌, ◌∙◌, ℕ, ◌+◌, ◌-◌, ◌<◌, ◌≤◌, Bool, true, false, List, length, take, drop, Option, Some, None, Result, Ok, Err, refl, sym, ap, subst, arith}
use Rattle.std.specs.Char.{len_utf8}
use Rattle.std.proofs.lemmas.List.{drop-drop, length-drop}
use Rattle.utf8_cut.specs.Sequences.{SpellsCharacter}
use Rattle.collation_table.specs.Table.{TableMap}
use Rattle.collation_matches.specs.declared.faults.TextFault.{TextFault}
use Rattle.collation_matches.specs.declared.select.Select.TheVariants.{All}
use Rattle.collation_matches.specs.GoodPrefix.{most_bytes, fault}
use Rattle.collation_matches.specs.Offsets.{answer_from}
use Rattle.collation_matches.specs.OffsetLaws.{ranges_from}
use Rattle.collation_matches.specs.Sought.{Sought, answer_to}
use Rattle.collation_matches.proofs.SearchLemmas.{TextLaw, WithinLaw}
use Rattle.collation_safe.specs.Laws.{AnswersFromSafeOffsets}
use Rattle.collation_safe.specs.Found.{IsFoundUpTo}
use Rattle.collation_safe.specs.Safe.{IsSafeOffset}
use Rattle.collation_anchored.specs.Answers.{unless_fault}
use Rattle.collation_search.specs.Indexing.{first_moved}
use Rattle.collation_backward.specs.Backward.{last_up_to, is_fault_before, said_up_to, IsNothingBehind}
use Rattle.collation_backward.proofs.Ranges.{up-to-from}
use Rattle.collation_backward.proofs.SaidInPieces.{said-from}
use Rattle.collation_backward.proofs.Told.{answer_of, fault-is, no-fault-said, rest-answers, good-up-to, rises}

abbrev Said : Type 0
Said = Result (Option (ℕ × ℕ)) TextFault

abbrev nothing : Said
nothing = Ok None

pub moved-nothing : (by : ℕ) (said : Said) → first_moved by said ≡ nothing → said ≡ nothing
moved-nothing by (Ok None) h = refl
moved-nothing by (Ok (Some range)) h = cc
moved-nothing by (Err f) h = cc

pub ok-none : (found : Option (ℕ × ℕ)) → (let r : Said = Ok found in r) ≡ nothing → found ≡ None
ok-none None h = refl
ok-none (Some range) h = cc

said-nothing : (to : ℕ) (at : Option TextFault) (found : Option (ℕ × ℕ)) (b : Bool) → is_fault_before to at ≡ b → unless_fault b at found ≡ nothing → (b ≡ false) × (found ≡ None)
said-nothing to None found true e h = cc
said-nothing to (Some f) found true e h = cc
said-nothing to at found false e h = (refl, ok-none found h)

none-from : (s : Sought) (p text : List ℕ) (to place : ℕ) → s.select ≡ All → last_up_to to (answer_to s p text).ranges ≡ None →
    (found : Option (ℕ × ℕ)) → last_up_to to (ranges_from place (answer_to s p text).ranges) ≡ found → found ≡ None
none-from s p text to place all none None e = refl
none-from s p text to place all none (Some range) e =
    let both = sym none ∙ up-to-from to place (answer_to s p text).ranges range (rises s p text all) e in cc

later-safe : (table : TableMap) (text : List ℕ) (next at : ℕ) → IsSafeOffset table text (next + at) → IsSafeOffset table (drop next text) at
later-safe table text next at safe = record {
  character = safe.character;
  whole = subst (λ (t : List ℕ). SpellsCharacter (take (len_utf8 safe.character) t) safe.character) (sym (drop-drop at next text)) safe.whole;
  safe = safe.safe;
}

-- the same, counted from the place on
within-rest : AnswersFromSafeOffsets → TextLaw → WithinLaw → (s : Sought) (p rest : List ℕ) (to place : ℕ) → s.select ≡ All → length rest ≤ most_bytes →
    said_up_to to (answer_to s p rest) ≡ nothing → IsSafeOffset s.table rest place → place < to → said_up_to to (answer_from s p rest place) ≡ nothing
within-rest answers text_law within_law s p rest to place all few none safe less =
    let a = answer_to s p rest in
    let parts = said-nothing to a.fault (last_up_to to a.ranges) (is_fault_before to a.fault) refl none in
    let clean : is_fault_before to (fault rest) ≡ false = ap (is_fault_before to) (sym (fault-is s p rest)) ∙ parts.0 in
    let here = rest-answers answers s p rest place all few safe (good-up-to text_law within_law rest to place clean less) in
    ap (said_up_to to) here
    ∙ no-fault-said to (answer_of (ranges_from place a.ranges) a.fault) parts.0
    ∙ ap (λ (o : Option (ℕ × ℕ)). let r : Said = Ok o in r) (none-from s p rest to place all parts.1 (last_up_to to (ranges_from place a.ranges)) refl)

pub nothing-behind : AnswersFromSafeOffsets → TextLaw → WithinLaw → (s : Sought) (p text : List ℕ) (at next place : ℕ) → s.select ≡ All → length text ≤ most_bytes →
    said_up_to at (answer_from s p text next) ≡ nothing → next ≤ place → place < at → IsSafeOffset s.table text place →
    said_up_to at (answer_from s p text place) ≡ nothing
nothing-behind answers text_law within_law s p text at next place all few none le less safe =
    let rest = drop next text in
    let to = at - next in
    let by = place - next in
    let sum : next + by ≡ place = omega (arith, le) in
    let said = moved-nothing next (said_up_to to (answer_to s p rest)) (said-from s p text next at (omega (arith, le, less)) ∙ none) in
    let inside = within-rest answers text_law within_law s p rest to by all (omega (arith, few, length-drop next text)) said
    (later-safe s.table text next by (subst (IsSafeOffset s.table text) (sym sum) safe)) (omega (arith, le, less)) in
    let there = moved-nothing by (said_up_to (to - by) (answer_to s p (drop by rest))) (said-from s p rest by to (omega (arith, le, less)) ∙ inside) in
    let left : to - by ≡ at - place = omega (arith, le, less) in
    let same : drop by rest ≡ drop place text = drop-drop by next text ∙ ap (λ n. drop n text) sum in
    let here : said_up_to (at - place) (answer_to s p (drop place text)) ≡ nothing =
    subst (λ (t : List ℕ). said_up_to (at - place) (answer_to s p t) ≡ nothing) same (subst (λ n. said_up_to n (answer_to s p (drop by rest)) ≡ nothing) left there) in
    sym (said-from s p text place at (omega (arith, less))) ∙ ap (first_moved place) here

-- ---- behind a fault

-- the place that was found behind a fault is the nearest one
abbrev pub IsNearestBehind : TableMap → List ℕ → ℕ → TextFault → Option ℕ → Type 0
IsNearestBehind table text at f found = (place : ℕ) → IsSafeOffset table text place → f.offset < place → place < at → IsFoundUpTo place found

module _ (s : Sought) (table : TableMap) (text : List ℕ) (at : ℕ) (f : TextFault) (found : Option ℕ) (same : s.table ≡ table) (nearest : IsNearestBehind table text at f found) where
  found-up-to : (place : ℕ) → IsSafeOffset s.table text place → f.offset < place → place < at → IsFoundUpTo place found
  found-up-to place safe behind less = nearest place (subst (λ (t : TableMap). IsSafeOffset t text place) same safe) behind less

  pub none-behind : (p : List ℕ) → found ≡ None → IsNothingBehind s p text at f
  none-behind p none = λ place safe behind less. absurd (subst (IsFoundUpTo place) none (found-up-to place safe behind less))

  pub nothing-from : AnswersFromSafeOffsets → TextLaw → WithinLaw → (p : List ℕ) (next : ℕ) → s.select ≡ All → length text ≤ most_bytes → found ≡ Some next →
      said_up_to at (answer_from s p text next) ≡ nothing → IsNothingBehind s p text at f
  nothing-from answers text_law within_law p next all few some none = λ place safe behind less.
      let le = subst (IsFoundUpTo place) some (found-up-to place safe behind less) in
      nothing-behind answers text_law within_law s p text at next place all few none le less safe
