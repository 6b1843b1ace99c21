-- The fault of the rest of a text from an offset on is that from each safe offset before it.
use Rattle.std.specs.Char.{len_utf8}
use Rattle.std.proofs.Common.{◌≡◌, ◌⊎◌, ◌∙◌, ℕ, ◌+◌, ◌-◌, ◌<◌, ◌≤◌, ◌==◌, ◌&&◌, ◌||◌, Bool, true, false, nat_lt, List, length, take, drop, Option, Some, None, is_some, refl, sym, ap, subst, arith, inl, inr}
use Rattle.std.proofs.lemmas.Bool.{cases_lt, and_parts, and_from, or_left, or_right, le-ltb, lt-ltb, ltb-true, false≢true, eqb-true, eq-eqb, cases_Bool}
use Rattle.std.proofs.lemmas.List.{drop-drop, length-drop, length-take-le}
use Rattle.std.proofs.lemmas.Option.{none-some}
use Rattle.utf8_cut.specs.Sequences.{SpellsCharacter}
use Rattle.collation_table.specs.Table.{TableMap}
use Rattle.collation_matches.specs.declared.faults.TextFault.{TextFault}
use Rattle.collation_matches.specs.declared.select.Select.TheVariants.{All}
use Rattle.collation_matches.specs.Answer.{Answer}
use Rattle.collation_matches.specs.GoodPrefix.{most_bytes, fault}
use Rattle.collation_matches.specs.Offsets.{text_fault_moved, fault_moved}
use Rattle.collation_matches.specs.Sought.{Sought}
use Rattle.collation_matches.proofs.SearchLemmas.{either}
use Rattle.collation_safe.specs.Laws.{AnswersFromSafeOffsets, IsGoodUpTo}
use Rattle.collation_safe.specs.Safe.{IsSafeOffset}
use Rattle.collation_safe.proofs.Standing.{stands-from, stands-within}
use Rattle.collation_backward.specs.Backward.{is_fault_before}
use Rattle.collation_backward.specs.Ending.{starts_safely, is_at_fault_from, last_below, last_fault, next_read}
use Rattle.collation_backward.proofs.Below.{IsLast, IsFirstUpTo, last-none, last-some, first-found}
use Rattle.collation_backward.proofs.LastFaults.{StarterLaws, alone-begins, begins-alone, not-at-fault}
use Rattle.collation_backward.proofs.StartTold.{before-end, unmoved}
use Rattle.collation_backward.proofs.Told.{fault-is, good-up-to, rest-answers}

moved-twice : (by more : ℕ) (at : Option TextFault) → fault_moved by (fault_moved more at) ≡ fault_moved (by + more) at
moved-twice by more None = refl
moved-twice by more (Some f) = let same : by + (more + f.offset) ≡ (by + more) + f.offset = omega arith in
    ap (λ n. let g : TextFault = record { kind = f.kind; offset = n } in Some g) same

pub later-alone : (table : TableMap) (text : List ℕ) (next at : ℕ) → IsSafeOffset table text (next + at) → IsSafeOffset table (drop next text) at
later-alone table text next at safe = record {
  character = safe.character;
  whole = subst (λ (t : List ℕ). SpellsCharacter (take (len_utf8 safe.character) t) safe.character) (sym (drop-drop at next text)) safe.whole;
  safe = safe.safe;
}

some-of : (o : Option TextFault) → is_some o ≡ true → (f : TextFault) × (o ≡ Some f)
some-of None h = absurd (false≢true h)
some-of (Some f) h = (f, refl)

none-of : (o : Option TextFault) → is_some o ≡ false → o ≡ None
none-of None h = refl
none-of (Some f) h = absurd (false≢true (sym h))

-- a fault of the rest from an offset on, counted from the beginning of the text
abbrev pub fault_from : List ℕ → ℕ → Option TextFault
fault_from text at = fault_moved at (fault (drop at text))

module _ (answers : AnswersFromSafeOffsets) (laws : StarterLaws) (s : Sought) (all : s.select ≡ All) (p text : List ℕ) (few : length text ≤ most_bytes) where
  abbrev Alone : ℕ → Type 0
  Alone at = IsSafeOffset s.table text at

  -- the rest is read by itself
  abbrev pub Read : ℕ → Type 0
  Read at = (at ≡ 0) ⊎ Alone at

  pub alone-within : (at : ℕ) → Alone at → at < length text
  alone-within at o = stands-within text at o.character (stands-from text at o.character o.whole)

  fewer : (at : ℕ) → length (drop at text) ≤ most_bytes
  fewer at = let len = length-drop at text in omega (arith, len, few)

  -- at a safe offset before the fault of the rest from an earlier one on
  same-fault : (from at : ℕ) → from ≤ at → Alone at → IsGoodUpTo (drop from text) (at - from) → fault_from text at ≡ fault_from text from
  same-fault from at le alone good =
      let by = at - from in
      let sum : from + by ≡ at = omega (arith, le) in
      let rest = drop from text in
      let safe = later-alone s.table text from by (subst Alone (sym sum) alone) in
      let moved : fault_moved by (fault (drop by rest)) ≡ fault rest =
      ap (fault_moved by) (sym (fault-is s p (drop by rest))) ∙ ap (λ (a : Answer). a.fault) (rest-answers answers s p rest by all (fewer from) safe good) ∙ fault-is s p rest in
      let same : drop by rest ≡ drop at text = drop-drop by from text ∙ ap (λ n. drop n text) sum in
      ap (λ n. fault_moved n (fault (drop at text))) (sym sum)
      ∙ sym (moved-twice from by (fault (drop at text)))
      ∙ ap (λ (t : List ℕ). fault_moved from (fault_moved by (fault t))) (sym same)
      ∙ ap (fault_moved from) moved

  -- where there is none, there is none later
  pub good-later : (from at : ℕ) → from ≤ at → Alone at → fault (drop from text) ≡ None → fault (drop at text) ≡ None
  good-later from at le alone none = unmoved at (fault (drop at text)) (same-fault from at le alone (inl none) ∙ ap (fault_moved from) none)

  -- where there is one, it is the same up to there
  fault-later : (from at : ℕ) (f : TextFault) → from ≤ at → Alone at → fault (drop from text) ≡ Some f → at < from + f.offset → fault_from text at ≡ fault_from text from
  fault-later from at f le alone some less =
      let clean : is_fault_before f.offset (fault (drop from text)) ≡ false = ap (is_fault_before f.offset) some ∙ le-ltb f.offset f.offset (omega arith) in
      same-fault from at le alone (good-up-to laws.texts.text laws.texts.within (drop from text) f.offset (at - from) clean (omega (arith, le, less)))

  -- it does not stand at such an offset
  not-there : (from at : ℕ) (f : TextFault) → from ≤ at → Alone at → fault (drop from text) ≡ Some f → at ≡ from + f.offset → ⊥
  not-there from at f le alone some here =
      let by = at - from in
      let sum : from + by ≡ at = omega (arith, le) in
      not-at-fault laws s.table (drop from text) by f (fewer from) (later-alone s.table text from by (subst Alone (sym sum) alone)) some (omega (arith, le, here))

  read-true : (at : ℕ) → Read at → (at == 0 || starts_safely s.table (drop at text)) ≡ true
  read-true at (inl zero) = or_left (at == 0) (starts_safely s.table (drop at text)) (eq-eqb at 0 zero)
  read-true at (inr alone) = or_right (at == 0) (starts_safely s.table (drop at text)) (alone-begins s.table text at alone)

  true-read : (at : ℕ) → (at == 0 || starts_safely s.table (drop at text)) ≡ true → Read at
  true-read at h = elim (cases_Bool (at == 0)) [
    | inl zero ↦ inl (eqb-true at 0 zero)
    | inr more ↦ inr (begins-alone laws.texts s.table text at (sym (ap (λ b. b || starts_safely s.table (drop at text)) more) ∙ h))
  ]

  abbrev test : ℕ → Bool
  test = is_at_fault_from s.table text

  abbrev fault_at : Option ℕ → Option TextFault
  fault_at o = elim o [ None ↦ None | Some at ↦ fault_from text at ]

  at-fault : (at : ℕ) (f : TextFault) → Read at → fault (drop at text) ≡ Some f → test at ≡ true
  at-fault at f read some = and_from (at == 0 || starts_safely s.table (drop at text)) (is_some (fault (drop at text))) (read-true at read) (ap is_some some)

  -- the last fault, by an offset from which on it is the fault of the rest, and behind which no rest has one
  pub last-is : (from : ℕ) (f : TextFault) → Read from → fault (drop from text) ≡ Some f → ((at : ℕ) → Alone at → from + f.offset < at → fault (drop at text) ≡ None) →
      last_fault s.table text ≡ Some (text_fault_moved from f)
  last-is from f read some none =
      let end = before-end laws.texts (drop from text) f some in
      let len = length-drop from text in
      elim (either (last_below (length text) test)) [
        | inl never ↦ absurd (false≢true (sym (last-none (length text) test from never (omega (arith, end, len))) ∙ at-fault from f read some))
        | inr last ↦
            let at = last.0 in
            let k = last-some (length text) test at last.1 in
            let parts = and_parts (at == 0 || starts_safely s.table (drop at text)) (is_some (fault (drop at text))) k.passes in
            let there = some-of (fault (drop at text)) parts.1 in
            let within = k.within in
            let whole : last_fault s.table text ≡ fault_from text at = ap fault_at last.1 in
            let here : fault_from text from ≡ Some (text_fault_moved from f) = ap (fault_moved from) some in
            elim (cases_lt at from) [
              | inl earlier ↦ absurd (false≢true (sym (k.last from earlier (omega (arith, end, len))) ∙ at-fault from f read some))
              | inr later ↦ elim (cases_lt from at) [
                | inr same ↦ let is : at ≡ from = omega (arith, later, same) in whole ∙ ap (fault_from text) is ∙ here
                | inl above ↦ elim (true-read at parts.0) [
                  | inl zero ↦ absurd (omega (arith, zero, above))
                  | inr alone ↦ elim (cases_lt (from + f.offset) at) [
                    | inl behind ↦ absurd (none-some there.0 (sym (none at alone behind) ∙ there.1))
                    | inr upto ↦ elim (cases_lt at (from + f.offset)) [
                      | inl before ↦ whole ∙ fault-later from at f later alone some before ∙ here
                      | inr not ↦ absurd (not-there from at f later alone some (omega (arith, upto, not)))
                    ]
                  ]
                ]
              ]
            ]
      ]

  -- what stands behind the last fault reaches at least back to an offset from which on there is none
  pub record IsBehind (from : ℕ) : Type 0 where
    pub at : TextFault
    pub next : ℕ
    pub last : last_fault s.table text ≡ Some at
    pub is : next_read s.table text at ≡ Some next
    pub before : next ≤ from
    pub later : at.offset < next
    pub good : fault (drop next text) ≡ None

  abbrev behind_test : TextFault → ℕ → Bool
  behind_test at place = nat_lt at.offset place && starts_safely s.table (drop place text)

  pub no-fault-or-behind : (from : ℕ) → Read from → fault (drop from text) ≡ None → ((last_fault s.table text ≡ None) × (fault (drop 0 text) ≡ None)) ⊎ IsBehind from
  no-fault-or-behind from read none = elim (either (last_below (length text) test)) [
    | inl never ↦
        let good : fault (drop 0 text) ≡ None = elim (either (fault (drop 0 text))) [
          | inl is ↦ is
          | inr some ↦
              let end = before-end laws.texts (drop 0 text) some.0 some.1 in
              let len = length-drop 0 text in
              absurd (false≢true (sym (last-none (length text) test 0 never (omega (arith, end, len))) ∙ at-fault 0 some.0 (inl refl) some.1))
        ] in
        inl (ap fault_at never, good)
    | inr last ↦
        let at = last.0 in
        let k = last-some (length text) test at last.1 in
        let parts = and_parts (at == 0 || starts_safely s.table (drop at text)) (is_some (fault (drop at text))) k.passes in
        let there = some-of (fault (drop at text)) parts.1 in
        let f = there.0 in
        let whole : last_fault s.table text ≡ Some (text_fault_moved at f) = ap fault_at last.1 ∙ ap (fault_moved at) there.1 in
        let later : at < from = elim (cases_lt at from) [
          | inl above ↦ above
          | inr upto ↦ absurd (elim (cases_lt from at) [
            | inr same ↦ let is : at ≡ from = omega (arith, upto, same) in none-some f (sym (ap (λ n. fault (drop n text)) is ∙ none) ∙ there.1)
            | inl above ↦ elim (true-read at parts.0) [
              | inl zero ↦ omega (arith, zero, above)
              | inr alone ↦ none-some f (sym (good-later from at upto alone none) ∙ there.1)
            ]
          ])
        ] in
        elim read [
          | inl zero ↦ absurd (omega (arith, zero, later))
          | inr alone ↦
              let behind : at + f.offset < from = elim (cases_lt (at + f.offset) from) [
                | inl above ↦ above
                | inr upto ↦ absurd (elim (cases_lt from (at + f.offset)) [
                  | inl before ↦
                      none-some (text_fault_moved at f) (sym (ap (fault_moved from) none) ∙ fault-later at from f (omega (arith, later)) alone there.1 before ∙ ap (fault_moved at) there.1)
                  | inr not ↦ not-there at from f (omega (arith, later)) alone there.1 (omega (arith, upto, not))
                ])
              ] in
              let within = alone-within from alone in
              let found = first-found (length text) 0 (behind_test (text_fault_moved at f)) from
              (and_from (nat_lt (at + f.offset) from) (starts_safely s.table (drop from text)) (lt-ltb (at + f.offset) from behind) (alone-begins s.table text from alone)) (omega arith) (omega (arith, within)) in
              let n = found.first in
              let test_parts = and_parts (nat_lt (at + f.offset) n) (starts_safely s.table (drop n text)) found.passes in
              let above = ltb-true (at + f.offset) n test_parts.0 in
              let before = found.before in
              let clean = k.last n (omega (arith, above)) (omega (arith, before, within)) in
              let readable = or_right (n == 0) (starts_safely s.table (drop n text)) test_parts.1 in
              inr (record {
                at = text_fault_moved at f;
                next = n;
                last = whole;
                is = found.is;
                before = before;
                later = above;
                good = none-of (fault (drop n text)) (right-false (n == 0 || starts_safely s.table (drop n text)) (is_some (fault (drop n text))) readable clean);
              })
        ]
  ]
    where
      right-false : (a b : Bool) → a ≡ true → (a && b) ≡ false → b ≡ false
      right-false true b h e = e
      right-false false b h e = absurd (false≢true h)
