-- What is told of the match that ends where a text ends, where a range is told up to there.
use Rattle.std.proofs.Common.{◌≡◌, ◌∙◌, ℕ, ◌+◌, ◌<◌, ◌≤◌, Bool, true, false, ◌&&◌, nat_lt, nat_le, List, [], ◌∷◌, length, drop, map, filter, Option, Some, None, Result, Ok, Err, if◌then◌else◌, refl, sym, ap, ap₂, subst, arith, inl, inr}
use Rattle.std.specs.Str.{chars, IsUtf8}
use Rattle.std.proofs.lemmas.Bool.{cases_Bool, and_parts, cond-true, ltb-true, ltb-false, le-leb}
use Rattle.std.proofs.lemmas.List.{take_all, drop_all, length-take, length-drop, drop-drop}
use Rattle.std.proofs.lemmas.Option.{none-some}
use Rattle.utf8_cut.specs.Characters.{characters_end, is_incomplete_or_empty, is_utf8_prefix}
use Rattle.nfd_points.specs.PointFaults.{point_fault}
use Rattle.collation_table.specs.Table.{TableMap}
use Rattle.collation_pattern.specs.Compiled.{Compiled, IsCompiledWith}
use Rattle.collation_matches.specs.declared.faults.TextFault.{TextFault}
use Rattle.collation_matches.specs.declared.faults.TheConstants.TextFault.{ILL_FORMED, TOO_LONG}
use Rattle.collation_matches.specs.declared.select.Select.{Select}
use Rattle.collation_matches.specs.declared.select.Select.TheVariants.{All}
use Rattle.collation_matches.specs.Answer.{Answer, answer, answer_at}
use Rattle.collation_matches.specs.GoodPrefix.{most_bytes, seen, whole, byte_fault, first_of, fault, good_prefix, prefix_at}
use Rattle.collation_matches.specs.Matches.{matches}
use Rattle.collation_matches.specs.Offsets.{range_moved, fault_moved, answer_from}
use Rattle.collation_matches.specs.OffsetLaws.{AnswersFromBoundaries, RangesMayBeGoneOnFrom}
use Rattle.collation_matches.specs.Selecting.{selected}
use Rattle.collation_matches.specs.Sought.{Sought, IsCompiledFrom, answer_to}
use Rattle.collation_matches.proofs.BridgeLists.{In, in_map}
use Rattle.collation_matches.proofs.LagLaw.{in-contains}
use Rattle.collation_matches.proofs.LagTexts.{TextLaws, no_fault_text}
use Rattle.collation_matches.proofs.OffsetBounds.{matches-within}
use Rattle.collation_matches.proofs.SearchLemmas.{byte_fault_at, either, good_prefix_found, offset_of, whole_of_text}
use Rattle.collation_matches.proofs.TextCheckLemmas.{fault_by_code, seen_short}
use Rattle.collation_anchored.specs.Anchored.{ends, is_equal, last_of}
use Rattle.collation_anchored.specs.Answers.{begun_by, equal_answer, unless_fault}
use Rattle.collation_anchored.specs.Laws.{EndsByLastRange}
use Rattle.collation_anchored.proofs.CountedTexts.{few-bytes}
use Rattle.collation_anchored.proofs.EqualAnswers.{whole_answers}
use Rattle.collation_backward.specs.Backward.{last_up_to, is_fault_before, said_up_to, start_told, IsToldOfEnd}
use Rattle.collation_backward.proofs.Ranges.{up-to-in}
use Rattle.collation_backward.proofs.Told.{fault-is}

-- ---- a fault stands before the end of a text

module _ (laws : TextLaws) (bytes : List ℕ) where
  abbrev here : List ℕ
  here = seen bytes

  short : length here ≤ length bytes
  short = let len = length-take most_bytes bytes in omega (arith, len)

  abbrev code_at : ℕ × ℕ → TextFault
  code_at at = record { kind = at.1; offset = at.0 }

  -- what may be looked at is no good text, so a code point at fault does not stand at its end
  code-before-end : (at : ℕ × ℕ) → point_fault (chars (whole here)) ≡ Some at → at.0 < length here
  code-before-end at is =
      let len = length-take most_bytes bytes in
      let twice : seen here ≡ here = seen_short here (omega (arith, len)) in
      let some = fault_by_code here at (ap (λ (t : List ℕ). point_fault (chars (whole t))) twice ∙ is) in
      let found = good_prefix_found laws.text laws.within here (code_at at) some in
      elim (cases_Bool (nat_lt at.0 (length here))) [
        | inl before ↦ ltb-true at.0 (length here) before
        | inr behind ↦
            let all : here ≡ found.0 = sym (take_all at.0 here (ltb-false at.0 (length here) behind)) ∙ found.1.taken in
            let same = whole_of_text laws.longest here (subst IsUtf8 (sym all) found.1.text) in
            let none : point_fault (chars (whole here)) ≡ None = ap (λ (t : List ℕ). point_fault (chars t)) (same ∙ all) ∙ found.1.sound in
            absurd (none-some at (sym none ∙ is))
      ]

  -- nor does a byte at fault
  byte-before-end : (at : TextFault) → byte_fault bytes ≡ Some at → at.offset < length bytes
  byte-before-end at is =
      let offset = byte_fault_at bytes at is in
      let within = laws.within here in
      let len = length-take most_bytes bytes in
      elim (cases_Bool (nat_lt most_bytes (length bytes) && is_utf8_prefix here)) [
        | inl long ↦
            let more = ltb-true most_bytes (length bytes) (and_parts (nat_lt most_bytes (length bytes)) (is_utf8_prefix here) long).0 in
            omega (arith, offset, within, len, more)
        | inr few ↦ elim (cases_Bool (nat_lt (characters_end here) (length here))) [
          | inl cut ↦ let before = ltb-true (characters_end here) (length here) cut in omega (arith, offset, before, short)
          | inr all ↦ let none : None ≡ Some at = rw (few, all) at is in absurd (none-some at none)
        ]
      ]

  pub before-end : (at : TextFault) → fault bytes ≡ Some at → at.offset < length bytes
  before-end at is =
      elim (either (point_fault (chars (whole here)))) [
        | inl none ↦ byte-before-end at (sym (ap (λ o. first_of o (byte_fault bytes)) none) ∙ is)
        | inr some ↦
            let offset = offset_of (code_at some.0) at (sym (fault_by_code bytes some.0 some.1) ∙ is) in
            let before = code-before-end some.0 some.1 in
            omega (arith, offset, before, short)
      ]

-- ---- the rest from the range on

-- the range is said by the rest from a place on, which has no fault
record IsOfRest (s : Sought) (p text : List ℕ) (range : ℕ × ℕ) : Type 0 where
  place : ℕ
  inner : ℕ × ℕ
  good : fault (drop place text) ≡ None
  there : In (answer_to s p (drop place text)).ranges inner
  start : place + inner.0 ≡ range.0

pub said-found : (to : ℕ) (at : Option TextFault) (last found : Option (ℕ × ℕ)) (b : Bool) → is_fault_before to at ≡ b → Ok found ≡ unless_fault b at last → (is_fault_before to at ≡ false) × (last ≡ found)
said-found to None last found true e h = cc
said-found to (Some f) last found true e h = cc
said-found to at last found false e h = (e, cc)

-- a rest that says no fault has none, and this is its last range
pub rest-said : TextLaws → (s : Sought) (p text : List ℕ) (place : ℕ) (found : Option (ℕ × ℕ)) → place ≤ length text → Ok found ≡ said_up_to (length text) (answer_from s p text place) →
    (fault (drop place text) ≡ None) × (last_up_to (length text) (answer_from s p text place).ranges ≡ found)
rest-said laws s p text place found within says =
    let len = length text in
    let rest = drop place text in
    let a = answer_to s p rest in
    let left = length-drop place text in
    let parts = said-found len (fault_moved place a.fault) (last_up_to len (map (range_moved place) a.ranges)) found (is_fault_before len (fault_moved place a.fault)) refl says in
    let clean : is_fault_before len (fault_moved place (fault rest)) ≡ false = ap (λ o. is_fault_before len (fault_moved place o)) (sym (fault-is s p rest)) ∙ parts.0 in (
      elim (either (fault rest)) [
        | inl none ↦ none
        | inr some ↦
            let f = some.0 in
            let behind : is_fault_before len (fault_moved place (Some f)) ≡ false = ap (λ o. is_fault_before len (fault_moved place o)) (sym some.1) ∙ clean in
            let late = ltb-false (place + f.offset) len behind in
            let before = before-end laws rest f some.1 in
            absurd (omega (arith, late, before, left, within))
      ],
      parts.1,
    )

is-of-rest : TextLaws → (s : Sought) (p text : List ℕ) (range : ℕ × ℕ) → IsToldOfEnd s p text (Ok (Some range)) → IsOfRest s p text range
is-of-rest laws s p text range t =
    let place = t.place in
    let len = length text in
    let a = answer_to s p (drop place text) in
    let within : place ≤ len = elim t.begins [ inl zero ↦ omega (arith, zero) | inr safe ↦ let less = safe.1 in omega (arith, less) ] in
    let said = rest-said laws s p text place (Some range) within t.says in
    let one = in_map (range_moved place) a.ranges range (up-to-in len (map (range_moved place) a.ranges) range said.1).0 in
    record { place = place; inner = one.0; good = said.0; there = one.1; start = ap (λ (r : ℕ × ℕ). r.0) one.2 }

pub unmoved : (by : ℕ) (at : Option TextFault) → fault_moved by at ≡ None → at ≡ None
unmoved by None h = refl
unmoved by (Some f) h = cc

module _ (laws : TextLaws) (rests : AnswersFromBoundaries) (ends_of_ranges : RangesMayBeGoneOnFrom) (s : Sought) (all : s.select ≡ All) (p text : List ℕ) (range : ℕ × ℕ)
    (said : Result (Option (ℕ × ℕ)) TextFault) (is : said ≡ Ok (Some range)) (told : IsToldOfEnd s p text said)
  where
    t : IsToldOfEnd s p text (Ok (Some range))
    t = subst (IsToldOfEnd s p text) is told

    pub rest-is-good : fault (drop range.0 text) ≡ None
    rest-is-good =
        let r = is-of-rest laws s p text range t in
        let bytes = drop r.place text in
        let from = (r.inner).0 in
        let may = (ends_of_ranges s p bytes r.inner (few-bytes bytes r.good) (in-contains (answer_to s p bytes).ranges r.inner r.there)).0 in
        let same = ap (λ (a : Answer). a.fault) (rests s p bytes from all may) in
        let moved : fault_moved from (fault (drop from bytes)) ≡ None = ap (fault_moved from) (sym (fault-is s p (drop from bytes))) ∙ same ∙ fault-is s p bytes ∙ r.good in
        let place : drop from bytes ≡ drop range.0 text = drop-drop from r.place text ∙ ap (λ n. drop n text) r.start in
        subst (λ (b : List ℕ). fault b ≡ None) place (unmoved from (fault (drop from bytes)) moved)

-- so whether it is equal is answered
equal-answered : (s : Sought) (p rest left : List ℕ) (r : Result Bool TextFault) → fault left ≡ None → rest ≡ left → r ≡ equal_answer s.table s.pattern p rest →
    r ≡ Ok (is_equal s.table s.pattern.strength s.pattern.variable p left)
equal-answered s p rest left r good here answer =
    answer
    ∙ ap (equal_answer s.table s.pattern p) here
    ∙ sym (whole_answers (begun_by s.table s.pattern left) (fault left) (is_equal s.table s.pattern.strength s.pattern.variable p (good_prefix left)) good)
    ∙ ap (λ (b : List ℕ). let r : Result Bool TextFault = Ok (is_equal s.table s.pattern.strength s.pattern.variable p b) in r) (ap (prefix_at left) good)

-- the start, by what was answered
abbrev pub start_by : ℕ → Result Bool TextFault → Result (Option ℕ) TextFault
start_by start (Ok equal) = Ok (if equal then Some start else None)
start_by start (Err f) = Err f

pub start-of : (s : Sought) (table : TableMap) (pattern : Compiled) (p text rest : List ℕ) (start end : ℕ) (r : Result Bool TextFault) → table ≡ s.table → pattern ≡ s.pattern →
    IsCompiledFrom s p → fault (drop start text) ≡ None → rest ≡ drop start text → (IsCompiledWith table pattern p → r ≡ equal_answer table pattern p rest) →
    start_by start r ≡ start_told s p text (Ok (Some (start, end)))
start-of s table pattern p text rest start end r same_table same_pattern compiled good here answer =
    let asked : Sought = record { table = table; pattern = pattern; select = s.select } in
    let same : asked ≡ s = ap₂ (λ (t : TableMap) (q : Compiled). let a : Sought = record { table = t; pattern = q; select = s.select } in a) same_table same_pattern in
    let answered = subst (λ (a : Sought). r ≡ equal_answer a.table a.pattern p rest) same (answer (subst (λ (a : Sought). IsCompiledFrom a p) (sym same) compiled)) in
    ap (start_by start) (equal-answered s p rest (drop start text) r good here answered)

-- ---- a text without a fault

up-to-all : (at : ℕ) (rs : List (ℕ × ℕ)) → ((r : ℕ × ℕ) → In rs r → r.1 ≤ at) → filter (λ (r : ℕ × ℕ). nat_le r.1 at) rs ≡ rs
up-to-all at [] within = refl
up-to-all at (r ∷ rs) within =
    let rest = filter (λ (q : ℕ × ℕ). nat_le q.1 at) rs in
    cond-true (nat_le r.1 at) (r ∷ rest) rest (le-leb r.1 at (within r (inl refl)))
    ∙ ap (λ (l : List (ℕ × ℕ)). r ∷ l) (up-to-all at rs (λ q h. within q (inr h)))

pub ranges-are : (s : Sought) (p text : List ℕ) → s.select ≡ All → fault text ≡ None → (answer_to s p text).ranges ≡ matches s.table s.pattern.strength s.pattern.variable p text
ranges-are s p text all good =
    let at : Option TextFault → List (ℕ × ℕ) = λ o. (answer_at s.table s.pattern.strength s.pattern.variable p text o).ranges in
    ap (λ (select : Select). selected select (at (fault text))) all ∙ ap at good

start-of-match : TextLaws → (s : Sought) → EndsByLastRange s.table → (p text : List ℕ) → IsUtf8 p → s.select ≡ All → fault text ≡ None →
    start_told s p text (Ok (last_up_to (length text) (answer_to s p text).ranges)) ≡ Ok (ends s.table s.pattern.strength s.pattern.variable p text)
start-of-match laws s law p text utf8 all good =
    let ms = matches s.table s.pattern.strength s.pattern.variable p text in
    let last : last_up_to (length text) (answer_to s p text).ranges ≡ last_of ms =
    ap (last_up_to (length text)) (ranges-are s p text all good)
    ∙ ap last_of (up-to-all (length text) ms (λ r h. (matches-within s.table s.pattern.strength s.pattern.variable p text r h).1)) in
    ap (λ (o : Option (ℕ × ℕ)). start_told s p text (Ok o)) last
    ∙ ap (λ (o : Option ℕ). let told : Result (Option ℕ) TextFault = Ok o in told) (sym (law s.pattern.strength s.pattern.variable p text utf8 (no_fault_text laws text good)))

-- the last range of the text is said, where there is one
abbrev pub IsSaid : Sought → List ℕ → List ℕ → Result (Option (ℕ × ℕ)) TextFault → Type 0
IsSaid s p text said =
    length text ≤ most_bytes → is_fault_before (length text) (fault text) ≡ false → said ≡ Ok (last_up_to (length text) (answer_to s p text).ranges)

pub start-good : TextLaws → (s : Sought) → EndsByLastRange s.table → (p text : List ℕ) → IsUtf8 p → s.select ≡ All → fault text ≡ None →
    (said : Result (Option (ℕ × ℕ)) TextFault) (told : Result (Option ℕ) TextFault) → IsSaid s p text said → told ≡ start_told s p text said →
    told ≡ Ok (ends s.table s.pattern.strength s.pattern.variable p text)
start-good laws s law p text utf8 all none said told good is =
    is ∙ ap (start_told s p text) (good (few-bytes text none) (ap (is_fault_before (length text)) none)) ∙ start-of-match laws s law p text utf8 all none
