-- A text that is taken in pieces, up to where nothing can come that ends before an offset.
use Rattle.std.proofs.Common.{◌≡◌, ◌∙◌, ℕ, ◌+◌, ◌-◌, ◌<◌, ◌≤◌, true, false, nat_lt, Contains, List, ◌++◌, length, map, drop, Option, Some, None, Result, Ok, Err, refl, sym, ap, ap₂, subst, arith, inl, inr}
use Rattle.std.specs.Prelude.{IfErr, OnOk, is_err}
use Rattle.std.specs.Option.{ForSome, option_map, option_or}
use Rattle.std.proofs.lemmas.Bool.{cases_Bool, ltb-true, ltb-false, lt-ltb, le-ltb}
use Rattle.std.proofs.lemmas.List.{drop_at}
use Rattle.collation_table.specs.declared.lookup.Weights.{Ghosts}
use Rattle.collation_matches.specs.declared.faults.TextFault.{TextFault}
use Rattle.collation_matches.specs.Answer.{answer}
use Rattle.collation_matches.specs.GoodPrefix.{fault}
use Rattle.collation_matches.specs.Offsets.{range_moved, text_fault_moved, fault_moved, answer_moved, answer_from}
use Rattle.collation_matches.specs.Sought.{Sought, IsCompiledFrom, answer_to}
use Rattle.collation_matches.proofs.BridgeLists.{In}
use Rattle.collation_matches.proofs.LagLaw.{in-contains}
use Rattle.collation_matches.proofs.OffsetBounds.{answered-within}
use Rattle.collation_matches.proofs.SelectedInTime.{selected-among}
use Rattle.collation_search.specs.declared.search.Search.{Search}
use Rattle.collation_search.specs.Feeding.{Feeds, fault_of}
use Rattle.collation_search.specs.Indexing.{EndsBy, first_moved}
use Rattle.collation_search.specs.Search.{HasSearched, sought}
use Rattle.collation_anchored.specs.Answers.{unless_fault}
use Rattle.collation_backward.specs.Backward.{last_up_to, is_fault_before, said_up_to}
use Rattle.collation_backward.proofs.Ranges.{up-to-append, up-to-in, up-to-moved, none-up-to}
use Rattle.collation_backward.proofs.Told.{fault-is, no-fault-said}

-- what is said where these ranges were handed out before a text ended so
abbrev pub said_with : ℕ → List (ℕ × ℕ) → Result (Unit {0}) TextFault → Result (Option (ℕ × ℕ)) TextFault
said_with to ranges ended = unless_fault (is_fault_before to (fault_of ended)) (fault_of ended) (last_up_to to ranges)

-- a piece with a fault
pub fault-told : {W : Type 0} {G : Ghosts W} (old new : Search W G) (s : Sought) (p u piece later : List ℕ) (to : ℕ) (handed found : List (ℕ × ℕ)) (fed : Result (Unit {0}) TextFault) →
    sought old ≡ s → IsCompiledFrom s p → is_err fed ≡ true → Feeds old piece fed found new → HasSearched old u handed →
    said_with to (handed ++ found) fed ≡ said_up_to to (answer_to s p ((u ++ piece) ++ later))
fault-told old new s p u piece later to handed found (Ok done) same compiled bad fed h = absurd cc
fault-told old new s p u piece later to handed found (Err f) same compiled bad fed h =
    let here = subst (λ (t : Sought). IsCompiledFrom t p) (sym same) compiled in
    let there = subst (λ (t : Sought). answer_to t p ((u ++ piece) ++ later) ≡ record { ranges = handed ++ found; fault = Some f }) same (fed.answer p u later handed here h) in
    ap (said_up_to to) (sym there)

-- a piece without one goes in
pub piece-taken : {W : Type 0} {G : Ghosts W} (old new : Search W G) (u piece : List ℕ) (handed found : List (ℕ × ℕ)) (fed : Result (Unit {0}) TextFault) →
    is_err fed ≡ false → Feeds old piece fed found new → HasSearched old u handed → HasSearched new (u ++ piece) (handed ++ found)
piece-taken old new u piece handed found (Ok done) good fed h = fed.stands u handed h
piece-taken old new u piece handed found (Err f) good fed h = absurd cc

-- the last one so far, with those of a piece
pub piece-last : (to : ℕ) (handed found : List (ℕ × ℕ)) (newer last both : Option (ℕ × ℕ)) → newer ≡ last_up_to to found → last ≡ last_up_to to handed → both ≡ option_or newer last →
    both ≡ last_up_to to (handed ++ found)
piece-last to handed found newer last both new old h = h ∙ ap₂ option_or new old ∙ sym (up-to-append to handed found)

-- where nothing is to come that ends at the offset or before it, and no fault stands before it, the last range so far is the last one
pub enough-told : (s : Sought) (p text : List ℕ) (to end : ℕ) (handed rest : List (ℕ × ℕ)) → to ≤ end → (answer_to s p text).ranges ≡ handed ++ rest →
    ((range : ℕ × ℕ) → Contains (drop (length handed) (answer_to s p text).ranges) range → end < range.1) →
    ForSome (fault text) (λ f. end ≤ f.offset) →
    Ok (last_up_to to handed) ≡ said_up_to to (answer_to s p text)
enough-told s p text to end handed rest enough parts later clean =
    let a = answer_to s p text in
    let behind : (r : ℕ × ℕ) → In rest r → to < r.1 = λ r h.
    let there = later r (subst (λ (rs : List (ℕ × ℕ)). Contains rs r) (sym (ap (drop (length handed)) parts ∙ drop_at handed rest (length handed) refl)) (in-contains rest r h)) in
    omega (arith, enough, there) in
    let last : last_up_to to a.ranges ≡ last_up_to to handed =
    ap (last_up_to to) parts ∙ up-to-append to handed rest ∙ ap (λ (o : Option (ℕ × ℕ)). option_or o (last_up_to to handed)) (none-up-to to rest behind) in
    let no_fault : is_fault_before to a.fault ≡ false = ap (is_fault_before to) (fault-is s p text) ∙ not-before (fault text) clean in
    sym (no-fault-said to a no_fault ∙ ap (λ (o : Option (ℕ × ℕ)). let r : Result (Option (ℕ × ℕ)) TextFault = Ok o in r) last)
  where
    not-before : (at : Option TextFault) → ForSome at (λ f. end ≤ f.offset) → is_fault_before to at ≡ false
    not-before None h = refl
    not-before (Some f) h = let behind = h f refl in le-ltb f.offset to (omega (arith, enough, behind))

-- what is to come of a search ends behind an offset, and no fault stands before that
abbrev pub EndsLater : {W : Type 0} {G : Ghosts W} → Search W G → ℕ → Type 0
EndsLater {W} {G} search end = (text u more : List ℕ) (handed : List (ℕ × ℕ)) (range : ℕ × ℕ) → IsCompiledFrom (sought search) text → HasSearched search u handed →
    Contains (drop (length handed) (answer_to (sought search) text (u ++ more)).ranges) range → end < range.1

-- what was handed out begins the answer
abbrev pub HandedOutBeginsTheAnswer : {W : Type 0} {G : Ghosts W} → Search W G → Type 0
HandedOutBeginsTheAnswer {W} {G} search = (text u later : List ℕ) (handed : List (ℕ × ℕ)) → IsCompiledFrom (sought search) text → HasSearched search u handed →
    (rest : List (ℕ × ℕ)) × ((answer_to (sought search) text (u ++ later)).ranges ≡ handed ++ rest)

abbrev pub FaultsLater : {W : Type 0} {G : Ghosts W} → Search W G → ℕ → Type 0
FaultsLater {W} {G} search end = (u more : List ℕ) (handed : List (ℕ × ℕ)) → HasSearched search u handed → ForSome (fault (u ++ more)) (λ f. end ≤ f.offset)

pub stop-told : {W : Type 0} {G : Ghosts W} (search : Search W G) (s : Sought) (p u later : List ℕ) (to end : ℕ) (handed : List (ℕ × ℕ)) →
    sought search ≡ s → IsCompiledFrom s p → HasSearched search u handed → to ≤ end → HandedOutBeginsTheAnswer search → EndsLater search end → FaultsLater search end →
    Ok (last_up_to to handed) ≡ said_up_to to (answer_to s p (u ++ later))
stop-told search s p u later to end handed same compiled h enough begins ends faults =
    let here = subst (λ (t : Sought). IsCompiledFrom t p) (sym same) compiled in
    let begun = begins p u later handed here h in
    subst (λ (t : Sought). Ok (last_up_to to handed) ≡ said_up_to to (answer_to t p (u ++ later))) same
    (enough-told (sought search) p (u ++ later) to end handed begun.0 enough begun.1 (λ range there. ends p u later handed range here h there) (faults u later handed h))

pub end-told : (s : Sought) (p text : List ℕ) (to : ℕ) (ranges : List (ℕ × ℕ)) (ended : Result (Unit {0}) TextFault) →
    OnOk ended (answer_to s p text ≡ record { ranges = ranges; fault = None }) → IfErr ended (λ f. answer_to s p text ≡ record { ranges = ranges; fault = Some f }) →
    said_with to ranges ended ≡ said_up_to to (answer_to s p text)
end-told s p text to ranges (Ok done) good bad = ap (said_up_to to) (sym good)
end-told s p text to ranges (Err f) good bad = ap (said_up_to to) (sym bad)

-- the end of the text
pub finish-told : {W : Type 0} {G : Ghosts W} (search : Search W G) (s : Sought) (p u : List ℕ) (to : ℕ) (ranges : List (ℕ × ℕ)) (ended : Result (Unit {0}) TextFault) → sought search ≡ s →
    OnOk ended (answer_to (sought search) p u ≡ record { ranges = ranges; fault = None }) → IfErr ended (λ f. answer_to (sought search) p u ≡ record { ranges = ranges; fault = Some f }) →
    said_with to ranges ended ≡ said_up_to to (answer_to s p u)
finish-told search s p u to ranges ended same good bad =
    subst (λ (t : Sought). said_with to ranges ended ≡ said_up_to to (answer_to t p u)) same (end-told (sought search) p u to ranges ended good bad)

-- ---- from a place on

ends-said : (to : ℕ) (ranges : List (ℕ × ℕ)) (at : Option TextFault) → ((r : ℕ × ℕ) → In ranges r → r.0 ≤ r.1) → EndsBy to (unless_fault (is_fault_before to at) at (last_up_to to ranges))
ends-said to ranges at upright = by-fault at
  where
    by-last : (found : Option (ℕ × ℕ)) → last_up_to to ranges ≡ found → EndsBy to (Ok found)
    by-last None e = tt
    by-last (Some range) e = let k = up-to-in to ranges range e in let le = upright range k.0 in (omega (arith, k.1, le), k.1)

    by-fault : (o : Option TextFault) → EndsBy to (unless_fault (is_fault_before to o) o (last_up_to to ranges))
    by-fault None = by-last (last_up_to to ranges) refl
    by-fault (Some f) = elim (cases_Bool (nat_lt f.offset to)) [
      | inl before ↦ subst (λ b. EndsBy to (unless_fault b (Some f) (last_up_to to ranges))) (sym before) (let less = ltb-true f.offset to before in omega (arith, less))
      | inr behind ↦ subst (λ b. EndsBy to (unless_fault b (Some f) (last_up_to to ranges))) (sym behind) (by-last (last_up_to to ranges) refl)
    ]

-- what an answer says up to an offset stands before that
pub said-within : (s : Sought) (p text : List ℕ) (to : ℕ) → EndsBy to (said_up_to to (answer_to s p text))
said-within s p text to =
    let all = (answer s.table s.pattern.strength s.pattern.variable p text).ranges in
    ends-said to (answer_to s p text).ranges (answer_to s p text).fault
    (λ r h. (answered-within s.table s.pattern.strength s.pattern.variable p text r (selected-among s.select all r h)).0)

moved-ok : (by : ℕ) (found : Option (ℕ × ℕ)) → first_moved by (Ok found) ≡ Ok (option_map (range_moved by) found)
moved-ok by None = refl
moved-ok by (Some range) = refl

pub said-moved : (by to : ℕ) (ranges : List (ℕ × ℕ)) (at : Option TextFault) →
    first_moved by (unless_fault (is_fault_before to at) at (last_up_to to ranges))
    ≡ unless_fault (is_fault_before (by + to) (fault_moved by at)) (fault_moved by at) (last_up_to (by + to) (map (range_moved by) ranges))
said-moved by to ranges None =
    moved-ok by (last_up_to to ranges) ∙ ap (λ (o : Option (ℕ × ℕ)). let r : Result (Option (ℕ × ℕ)) TextFault = Ok o in r) (sym (up-to-moved by to ranges))
said-moved by to ranges (Some f) =
    let here = last_up_to to ranges in
    let there = last_up_to (by + to) (map (range_moved by) ranges) in
    let moved = text_fault_moved by f in
    elim (cases_Bool (nat_lt f.offset to)) [
      | inl before ↦
          let less = ltb-true f.offset to before in
          ap (λ b. first_moved by (unless_fault b (Some f) here)) before
          ∙ sym (ap (λ b. unless_fault b (Some moved) there) (lt-ltb (by + f.offset) (by + to) (omega (arith, less))))
      | inr behind ↦
          let le = ltb-false f.offset to behind in
          ap (λ b. first_moved by (unless_fault b (Some f) here)) behind
          ∙ moved-ok by here
          ∙ ap (λ (o : Option (ℕ × ℕ)). let r : Result (Option (ℕ × ℕ)) TextFault = Ok o in r) (sym (up-to-moved by to ranges))
          ∙ sym (ap (λ b. unless_fault b (Some moved) there) (le-ltb (by + f.offset) (by + to) (omega (arith, le))))
    ]

pub said-from : (s : Sought) (p text : List ℕ) (from at : ℕ) → from ≤ at →
    first_moved from (said_up_to (at - from) (answer_to s p (drop from text))) ≡ said_up_to at (answer_from s p text from)
said-from s p text from at le =
    let a = answer_to s p (drop from text) in
    let sum : from + (at - from) ≡ at = omega (arith, le) in
    said-moved from (at - from) a.ranges a.fault ∙ ap (λ n. said_up_to n (answer_moved from a)) sum
