use Rattle.std.specs.Prelude.{Result, Option, None, Ok}
use Rattle.std.proofs.Common.{◌≡◌, ◌∙◌, ◌+◌, ◌-◌, ℕ, List, [], length, take, drop, slice_get, sym, ap, subst, arith}
use Rattle.std.proofs.lemmas.List.{take_all, take_rest}
use Rattle.collation_matches.specs.declared.faults.TextFault.{TextFault}
use Rattle.collation_search.specs.Feeding.{TakesPart, fault_of}
use Rattle.collation_search.specs.Indexing.{range_or_fault, first_range}
use Rattle.collation_search.proofs.FeedLemmas.{takes-append, takes-none, feeds-of, none_or_some}
use Rattle.collation_search.proofs.FirstLemmas.{letters-on, steps-on, first-within, fault-within, none-taken}
use Rattle.collation_search.proofs.StateLemmas.{state_laws}
use Rattle.collation_search.proofs.search.Search.feed_first.Given as given
use Rattle.collation_search.proofs.search.Search.feed_first.Goals.{After-letters_to_first-len, After-range_or_fault}
use Rattle.collation_search.proofs.search.Search.feed_first.Goals as goal

pub parts-init : goal.parts-init
parts-init g c =
    let now = c.reach-reach.new.self in
    let first = c.reach-reach.ensures.taken in
    record {
      within = omega arith;
      taken = takes-append c.args.self.now now now 0 0 c.reach-reach.result [] [] (Ok tt) [] [] (λ some. absurd (omega (arith, some))) (λ some. absurd (omega (arith, some)))
          first (takes-none now 0 (λ f told. none_or_some now.fault f (first 0).none told));
    }

-- ---- letters

abbrev ok_of : Option (ℕ × ℕ) → Result (Option (ℕ × ℕ)) TextFault
ok_of range = Ok range

-- the letters behind the bytes so far were taken
letters : (g : given.Over) (c : After-letters_to_first-len g) →
    TakesPart c.args.self.now c.reach-reach.result (take (c.parts.at + c.letters_to_first-len.result.0) c.args.piece.now) (Ok tt) c.letters_to_first-len.ensures.taken.0 c.letters_to_first-len.new.self
letters g c =
    let l = c.parts in
    let piece = c.args.piece.now in
    let run = c.letters_to_first-len in
    letters-on c.args.self.now l.self run.new.self c.reach-reach.result l.at c.saturating_sub-here.result run.result.0 piece (take (length piece - l.at) (drop l.at piece)) run.ensures.taken.0
    l.invariant.within (λ some. omega (arith, some, c.saturating_sub-here.ensures)) (take_rest piece l.at) l.invariant.taken run.ensures.taken.1

pub returns-in-Some-clause-first : goal.returns-in-Some-clause-first
returns-in-Some-clause-first g c = λ p u later compiled h.
    let run = c.letters_to_first-len in
    first-within c.args.self.now run.new.self c.reach-reach.result p u c.args.piece.now later (c.parts.at + run.result.0) (Ok tt) run.ensures.taken.0 c.in-Some.range
    (letters g (goal.at.returns-in-Some-clause-first g c).After-letters_to_first-len) h compiled c.has_handed_out_within.ensures
    (ap (λ (o : Option (ℕ × ℕ)). range_or_fault o None) (sym run.ensures.taken.2 ∙ c.in-Some.is))

pub returns-then-at-piece-clause-none : goal.returns-then-at-piece-clause-none
returns-then-at-piece-clause-none g c = λ u h told.
    let old = c.args.self.now in
    let run = c.letters_to_first-len in
    let now = run.new.self in
    let reach = c.reach-reach.result in
    let piece = c.args.piece.now in
    let at = c.parts.at + run.result.0 in
    let taken = none-taken old now reach (take at piece) (Ok tt) run.ensures.taken.0 (letters g (goal.at.returns-then-at-piece-clause-none g c).After-letters_to_first-len)
    (ap (λ (o : Option (ℕ × ℕ)). range_or_fault o None) (sym run.ensures.taken.2 ∙ c.in-None.is)) in
    let all = take_all at piece (omega (arith, c.if-at-piece.true)) in
    let fed = feeds-of (state_laws c.decided_units_stay.ensures.begin c.laws_of_reordering.ensures.last c.laws_of_reordering.ensures.others) c.laws_of_decompositions.ensures.short c.decided_units_stay.ensures.early
    old now reach piece (Ok tt) [] c.reach-reach.ensures.enough (subst (λ (t : List ℕ). TakesPart old reach t (Ok tt) [] now) all taken) in
    fed.stands u [] h

-- ---- a step

-- what stands behind them was taken
step : (g : given.Over) (c : After-range_or_fault g) →
    TakesPart c.args.self.now c.reach-reach.result (take ((c.parts.at + c.letters_to_first-len.result.0) + c.step_at-len.result.0) c.args.piece.now) c.step_at-len.result.1 c.step_at-len.new.room.items c.step_at-len.new.self
step g c =
    let l = c.parts in
    let old = c.args.self.now in
    let piece = c.args.piece.now in
    let reach = c.reach-reach.result in
    let run = c.letters_to_first-len in
    let at = l.at + run.result.0 in
    let rest = take_rest piece l.at in
    let letters = letters-on old l.self run.new.self reach l.at c.saturating_sub-here.result run.result.0 piece (take (length piece - l.at) (drop l.at piece)) run.ensures.taken.0
    l.invariant.within (λ some. omega (arith, some, c.saturating_sub-here.ensures)) rest l.invariant.taken run.ensures.taken.1 in
    let none = none-taken old run.new.self reach (take at piece) (Ok tt) run.ensures.taken.0 letters (ap (λ (o : Option (ℕ × ℕ)). range_or_fault o None) (sym run.ensures.taken.2 ∙ c.in-None.is)) in
    steps-on old run.new.self c.step_at-len.new.self reach at c.step_at-len.result.0 piece c.step_at-len.result.1 c.step_at-len.new.room.items none c.step_at-len.ensures.taken

-- and this is what it gave
given_by_step : (g : given.Over) (c : After-range_or_fault g) → first_range c.step_at-len.new.room.items (fault_of c.step_at-len.result.1) ≡ c.range_or_fault.result
given_by_step g c =
    let first : c.copied.result ≡ slice_get c.step_at-len.new.room.items 0 =
    c.copied.ensures ∙ c.first.ensures.value ∙ ap (λ (rs : List (ℕ × ℕ)). slice_get rs 0) c.as_slice.ensures.value in
    sym (c.range_or_fault.ensures ∙ ap (λ (o : Option (ℕ × ℕ)). range_or_fault o (fault_of c.step_at-len.result.1)) first)

pub parts-preserved : goal.parts-preserved
parts-preserved g c =
    let here = (goal.at.parts-preserved g c).After-range_or_fault in
    let run = c.letters_to_first-len in
    let at = c.parts.at + run.result.0 in
    let piece = c.args.piece.now in
    record {
      within = omega (arith, c.step_at-len.ensures.within);
      taken = none-taken c.args.self.now c.step_at-len.new.self c.reach-reach.result (take (at + c.step_at-len.result.0) piece) c.step_at-len.result.1 c.step_at-len.new.room.items (step g here)
          (given_by_step g here ∙ c.in-Ok-None.is ∙ ap ok_of c.in-Ok-None.field-0-is);
    }

pub returns-in-Ok-Some-clause-first : goal.returns-in-Ok-Some-clause-first
returns-in-Ok-Some-clause-first g c = λ p u later compiled h.
    let here = (goal.at.returns-in-Ok-Some-clause-first g c).After-range_or_fault in
    first-within c.args.self.now c.step_at-len.new.self c.reach-reach.result p u c.args.piece.now later ((c.parts.at + c.letters_to_first-len.result.0) + c.step_at-len.result.0) c.step_at-len.result.1 c.step_at-len.new.room.items c.in-Ok-Some.range
    (step g here) h compiled c.has_handed_out_within-in-Ok-Some.ensures (given_by_step g here ∙ c.in-Ok-Some.is ∙ ap ok_of c.in-Ok-Some.field-0-is)

pub returns-in-Err-clause-first : goal.returns-in-Err-clause-first
returns-in-Err-clause-first g c = λ p u later compiled h.
    let here = (goal.at.returns-in-Err-clause-first g c).After-range_or_fault in
    fault-within c.args.self.now c.step_at-len.new.self c.reach-reach.result p u c.args.piece.now later ((c.parts.at + c.letters_to_first-len.result.0) + c.step_at-len.result.0) c.step_at-len.result.1 c.step_at-len.new.room.items c.in-Err.fault
    (step g here) h compiled (given_by_step g here ∙ c.in-Err.is)

-- ---- what is sought stays, and no fault was reported so far

pub letters_to_first-len-requires : goal.letters_to_first-len-requires
letters_to_first-len-requires g c = record { none = (c.parts.invariant.taken 0).none }

pub returns-in-Some-clause-sought : goal.returns-in-Some-clause-sought
returns-in-Some-clause-sought g c = (letters g (goal.at.returns-in-Some-clause-sought g c).After-letters_to_first-len 0).same_sought

pub returns-then-at-piece-clause-sought : goal.returns-then-at-piece-clause-sought
returns-then-at-piece-clause-sought g c = (letters g (goal.at.returns-then-at-piece-clause-sought g c).After-letters_to_first-len 0).same_sought

pub returns-in-Ok-Some-clause-sought : goal.returns-in-Ok-Some-clause-sought
returns-in-Ok-Some-clause-sought g c = (step g (goal.at.returns-in-Ok-Some-clause-sought g c).After-range_or_fault 0).same_sought

pub returns-in-Err-clause-sought : goal.returns-in-Err-clause-sought
returns-in-Err-clause-sought g c = (step g (goal.at.returns-in-Err-clause-sought g c).After-range_or_fault 0).same_sought

pub step_at-len-requires-clause-none : goal.step_at-len-requires-clause-none
step_at-len-requires-clause-none g c = (c.letters_to_first-len.ensures.taken.1 0).none
