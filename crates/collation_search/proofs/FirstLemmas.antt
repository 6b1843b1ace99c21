-- The first range of a text that is taken in pieces.
use Rattle.std.proofs.Common.{◌≡◌, ◌∙◌, ℕ, ◌+◌, ◌<◌, ◌≤◌, List, [], ◌∷◌, ◌++◌, length, map, take, drop, Option, Some, None, Result, Ok, Err, refl, sym, ap, ap₂, subst, arith, inl, append_assoc}
use Rattle.std.specs.Prelude.{IfErr, OnOk}
use Rattle.std.proofs.Math.Seq.{take-add}
use Rattle.std.proofs.lemmas.List.{take-append-drop, length-take-le}
use Rattle.collation_table.specs.declared.lookup.Weights.{Ghosts}
use Rattle.collation_matches.specs.declared.faults.TextFault.{TextFault}
use Rattle.collation_matches.specs.Answer.{Answer, answer}
use Rattle.collation_matches.specs.Offsets.{range_moved, fault_moved, answer_from}
use Rattle.collation_matches.specs.Sought.{Sought, IsCompiledFrom, answer_to}
use Rattle.collation_search.specs.declared.search.Search.{Search}
use Rattle.collation_search.specs.Feeding.{BeginsAnswers, MayCut, TakesPart, fault_of}
use Rattle.collation_search.specs.Indexing.{range_or_fault, first_range, first_moved, EndsBy}
use Rattle.collation_search.specs.Search.{HasSearched, sought}
use Rattle.collation_search.proofs.FeedLemmas.{taken-from, takes-append}
use Rattle.collation_matches.proofs.BridgeLists.{In}
use Rattle.collation_matches.proofs.OffsetBounds.{EndsWithin, answered-within, answer-fault-is, fault-within as fault-inside, first-selected}
use Rattle.collation_matches.proofs.SearchLemmas.{TextLaw, WithinLaw}

-- the first range of the answer to a text, or its fault
abbrev pub first_to : Sought → List ℕ → List ℕ → Result (Option (ℕ × ℕ)) TextFault
first_to s p text = let a = answer_to s p text in first_range a.ranges a.fault

-- the text behind the bytes so far begins with the next piece
pub next-piece : (text u rest : List ℕ) (n : ℕ) (piece later : List ℕ) → text ≡ u ++ rest → piece ≡ take n rest → later ≡ drop n rest → text ≡ (u ++ piece) ++ later
next-piece text u rest n piece later parts front back =
    parts ∙ ap (λ t. u ++ t) (sym (ap₂ (λ (a b : List ℕ). a ++ b) front back ∙ take-append-drop n rest)) ∙ sym (append_assoc u piece later)

-- the text behind a part of a piece
pub behind-part : (u piece later : List ℕ) (n : ℕ) → (u ++ piece) ++ later ≡ (u ++ take n piece) ++ (drop n piece ++ later)
behind-part u piece later n =
    ap (λ (t : List ℕ). (u ++ t) ++ later) (sym (take-append-drop n piece))
    ∙ ap (λ (t : List ℕ). t ++ later) (sym (append_assoc u (take n piece) (drop n piece)))
    ∙ append_assoc (u ++ take n piece) (drop n piece) later

module _ {W : Type 0} {G : Ghosts W} where
  -- units may be cut early, as far as letters are taken
  may-cut : (search : Search W G) (reach : ℕ) (u : List ℕ) (handed : List (ℕ × ℕ)) → HasSearched search u handed → MayCut search reach (length u + reach) u handed
  may-cut search reach u handed h = (λ some. omega arith, taken-from search (length u + reach) u handed h)

  -- a part of a piece with a fault gives what the text does
  at_fault : (old new : Search W G) (reach : ℕ) (p u part later : List ℕ) (f : TextFault) (found : List (ℕ × ℕ)) →
      TakesPart old reach part (Err f) found new → HasSearched old u [] → IsCompiledFrom (sought old) p → first_range found (Some f) ≡ first_to (sought old) p ((u ++ part) ++ later)
  at_fault old new reach p u part later f found t h compiled =
      ap (λ (a : Answer). first_range a.ranges a.fault) (sym ((t (length u + reach)).answer p u later [] compiled (may-cut old reach u [] h)))

  pub fault-taken : (old new : Search W G) (reach : ℕ) (p u part later : List ℕ) (answer : Result (Unit {0}) TextFault) (found : List (ℕ × ℕ)) (f : TextFault) →
      TakesPart old reach part answer found new → HasSearched old u [] → IsCompiledFrom (sought old) p → first_range found (fault_of answer) ≡ Err f →
      Err f ≡ first_to (sought old) p ((u ++ part) ++ later)
  fault-taken old new reach p u part later (Err g) found f t h compiled told = sym told ∙ at_fault old new reach p u part later g found t h compiled
  fault-taken old new reach p u part later (Ok done) [] f t h compiled told = absurd cc
  fault-taken old new reach p u part later (Ok done) (range ∷ ranges) f t h compiled told = absurd cc

  -- and so does one with a range
  pub first-taken : (old new : Search W G) (reach : ℕ) (p u part later : List ℕ) (answer : Result (Unit {0}) TextFault) (found : List (ℕ × ℕ)) (range : ℕ × ℕ) →
      TakesPart old reach part answer found new → HasSearched old u [] → IsCompiledFrom (sought old) p → BeginsAnswers new → first_range found (fault_of answer) ≡ Ok (Some range) →
      Ok (Some range) ≡ first_to (sought old) p ((u ++ part) ++ later)
  first-taken old new reach p u part later (Err f) found range t h compiled begins told = sym told ∙ at_fault old new reach p u part later f found t h compiled
  first-taken old new reach p u part later (Ok done) [] range t h compiled begins told = absurd cc
  first-taken old new reach p u part later (Ok done) (first ∷ ranges) range t h compiled begins told =
      let text = (u ++ part) ++ later in
      let same = (t 0).same_sought in
      let place = length u + reach in
      let begun = begins place p (u ++ part) later (first ∷ ranges) (subst (λ (s : Sought). IsCompiledFrom s p) (sym same) compiled) ((t place).stands u [] (may-cut old reach u [] h)) in
      let there : (answer_to (sought old) p text).ranges ≡ (first ∷ ranges) ++ begun.0 = subst (λ (s : Sought). (answer_to s p text).ranges ≡ (first ∷ ranges) ++ begun.0) same begun.1 in
      sym told ∙ ap (λ (rs : List (ℕ × ℕ)). first_range rs (answer_to (sought old) p text).fault) (sym there)

  -- a part with neither goes in
  pub none-taken : (old new : Search W G) (reach : ℕ) (part : List ℕ) (answer : Result (Unit {0}) TextFault) (found : List (ℕ × ℕ)) →
      TakesPart old reach part answer found new → first_range found (fault_of answer) ≡ Ok None → TakesPart old reach part (Ok tt) [] new
  none-taken old new reach part (Ok done) [] t told = t
  none-taken old new reach part (Ok done) (range ∷ ranges) t told = absurd cc
  none-taken old new reach part (Err f) [] t told = absurd cc
  none-taken old new reach part (Err f) (range ∷ ranges) t told = absurd cc

  -- ---- of a piece so many bytes, of which none of the first gave a range

  -- letters behind the bytes so far
  pub letters-on : (old so_far now : Search W G) (reach at here n : ℕ) (piece rest : List ℕ) (found : List (ℕ × ℕ)) → at ≤ length piece → (0 < here → at + here ≤ reach) → rest ≡ drop at piece →
      TakesPart old reach (take at piece) (Ok tt) [] so_far → TakesPart so_far here (take n rest) (Ok tt) found now → TakesPart old reach (take (at + n) piece) (Ok tt) found now
  letters-on old so_far now reach at here n piece rest found within near same before step =
      let long = length-take-le at piece within in
      subst (λ (t : List ℕ). TakesPart old reach t (Ok tt) found now) (sym (take-add at n piece))
      (takes-append old so_far now reach here reach (take at piece) (take n (drop at piece)) (Ok tt) [] found (λ some. omega arith) (λ some. let far = near some in omega (arith, far, long)) before
      (subst (λ (t : List ℕ). TakesPart so_far here (take n t) (Ok tt) found now) same step))

  -- characters or a byte behind them
  pub steps-on : (old so_far now : Search W G) (reach at n : ℕ) (piece : List ℕ) (answer : Result (Unit {0}) TextFault) (found : List (ℕ × ℕ)) →
      TakesPart old reach (take at piece) (Ok tt) [] so_far → TakesPart so_far 0 (take n (drop at piece)) answer found now → TakesPart old reach (take (at + n) piece) answer found now
  steps-on old so_far now reach at n piece answer found before step =
      subst (λ (t : List ℕ). TakesPart old reach t answer found now) (sym (take-add at n piece))
      (takes-append old so_far now reach 0 reach (take at piece) (take n (drop at piece)) answer [] found (λ some. omega arith) (λ some. absurd (omega (arith, some))) before step)

  -- the range, or the fault, that they gave is that of the text
  pub first-within : (old new : Search W G) (reach : ℕ) (p u piece later : List ℕ) (n : ℕ) (answer : Result (Unit {0}) TextFault) (found : List (ℕ × ℕ)) (range : ℕ × ℕ) →
      TakesPart old reach (take n piece) answer found new → HasSearched old u [] → IsCompiledFrom (sought old) p → BeginsAnswers new → first_range found (fault_of answer) ≡ Ok (Some range) →
      Ok (Some range) ≡ first_to (sought old) p ((u ++ piece) ++ later)
  first-within old new reach p u piece later n answer found range t h compiled begins told =
      first-taken old new reach p u (take n piece) (drop n piece ++ later) answer found range t h compiled begins told
      ∙ ap (first_to (sought old) p) (sym (behind-part u piece later n))

  pub fault-within : (old new : Search W G) (reach : ℕ) (p u piece later : List ℕ) (n : ℕ) (answer : Result (Unit {0}) TextFault) (found : List (ℕ × ℕ)) (f : TextFault) →
      TakesPart old reach (take n piece) answer found new → HasSearched old u [] → IsCompiledFrom (sought old) p → first_range found (fault_of answer) ≡ Err f →
      Err f ≡ first_to (sought old) p ((u ++ piece) ++ later)
  fault-within old new reach p u piece later n answer found f t h compiled told =
      fault-taken old new reach p u (take n piece) (drop n piece ++ later) answer found f t h compiled told
      ∙ ap (first_to (sought old) p) (sym (behind-part u piece later n))

-- the end of the text gives what the text does
pub first-ended : (s : Sought) (p text : List ℕ) (ended : Result (Unit {0}) TextFault) (found : List (ℕ × ℕ)) →
    OnOk ended (answer_to s p text ≡ record { ranges = found; fault = None }) → IfErr ended (λ f. answer_to s p text ≡ record { ranges = found; fault = Some f }) →
    first_range found (fault_of ended) ≡ first_to s p text
first-ended s p text (Ok done) found good bad = ap (λ (a : Answer). first_range a.ranges a.fault) (sym good)
first-ended s p text (Err f) found good bad = ap (λ (a : Answer). first_range a.ranges a.fault) (sym bad)

-- ---- from an offset on

-- the first range of a text, or its fault, stands within it
ends-by : (end : ℕ) (ranges : List (ℕ × ℕ)) (at : Option TextFault) → ((r : ℕ × ℕ) → In ranges r → EndsWithin end r) → ((f : TextFault) → at ≡ Some f → f.offset ≤ end) → EndsBy end (first_range ranges at)
ends-by end [] None ranges_in fault_in = tt
ends-by end [] (Some f) ranges_in fault_in = fault_in f refl
ends-by end (r ∷ rs) at ranges_in fault_in = let here = ranges_in r (inl refl) in (omega (arith, here.0, here.1), here.1)

pub answered-inside : TextLaw → WithinLaw → (s : Sought) (p bytes : List ℕ) → EndsBy (length bytes) (first_to s p bytes)
answered-inside text_law within_law s p bytes =
    let strength = s.pattern.strength in
    let variable = s.pattern.variable in
    let all = answer s.table strength variable p bytes in
    let same : first_range all.ranges all.fault ≡ first_to s p bytes = ap (λ (o : Option (ℕ × ℕ)). range_or_fault o all.fault) (sym (first-selected s.select all.ranges)) in
    subst (EndsBy (length bytes)) same
    (ends-by (length bytes) all.ranges all.fault (answered-within s.table strength variable p bytes)
    (λ f e. fault-inside text_law within_law bytes f (sym (answer-fault-is s.table strength variable p bytes) ∙ e)))

-- counted from the beginning of the text they are those of the answer counted so
pub moved-first : (by : ℕ) (ranges : List (ℕ × ℕ)) (at : Option TextFault) → first_moved by (first_range ranges at) ≡ first_range (map (range_moved by) ranges) (fault_moved by at)
moved-first by [] None = refl
moved-first by [] (Some f) = refl
moved-first by (r ∷ rs) at = refl

-- the first range of the answer from an offset on, or its fault
abbrev pub first_from_to : Sought → List ℕ → List ℕ → ℕ → Result (Option (ℕ × ℕ)) TextFault
first_from_to s p text from = let a = answer_from s p text from in first_range a.ranges a.fault

pub moved-from : (s : Sought) (p text : List ℕ) (from : ℕ) → first_moved from (first_to s p (drop from text)) ≡ first_from_to s p text from
moved-from s p text from = let a = answer_to s p (drop from text) in moved-first from a.ranges a.fault
