use Rattle.std.specs.Prelude.{Ok, Err}
use Rattle.std.specs.List.{FoldsTo}
use Rattle.std.proofs.Common.{◌≡◌, ◌∙◌, ◌+◌, ◌≤◌, ℕ, List, [], ◌++◌, length, take, drop, refl, sym, ap, subst, arith, append_assoc}
use Rattle.std.proofs.Math.Seq.{take-add}
use Rattle.std.proofs.lemmas.List.{take-append-drop, take_all, take_rest, length-drop, length-take-le}
use Rattle.std.proofs.lemmas.Option.{none-some}
use Rattle.collation_search.specs.Feeding.{TakesPart}
use Rattle.collation_walk.proofs.Folds.{folds-append}
use Rattle.collation_search.proofs.FeedLemmas.{takes-append, takes-stop, feeds-of, feeds-reported}
use Rattle.collation_search.proofs.StateLemmas.{state_laws}
use Rattle.collation_search.proofs.search.Search.feed_with.Goals as goal

pub returns-in-Some-clause-fed : goal.returns-in-Some-clause-fed
returns-in-Some-clause-fed g c =
    ([], refl, feeds-reported c.args.self.now c.args.piece.now c.in-Some.fault c.in-Some.ensures.reported (λ u handed h. none-some c.in-Some.fault (sym (c.in-Some.ensures.none u handed h))) c.in-Some.ensures.again)

pub returns-in-Err-clause-fed : goal.returns-in-Err-clause-fed
returns-in-Err-clause-fed g c =
    let i = c.loop-at.at in
    let piece = c.args.piece.now in
    let rest = drop i piece in
    let f = c.in-Err.fault in
    let before = c.loop-at.invariant.taken in
    let found = c.step_far-stepped.new.found.items in
    let now = c.step_far-stepped.new.self in
    let reach = c.reach-reach.result in
    let step = subst (λ (t : List ℕ). TakesPart c.loop-at.self 0 (take 1 t) (Err f) found now) (take_rest piece i) c.in-Err.ensures.fault in
    let both = takes-append c.args.self.now c.loop-at.self now reach 0 reach (take i piece) (take 1 rest) (Err f) before.0 found (λ some. omega arith) (λ some. absurd (omega (arith, some))) before.2 step in
    let all = takes-stop c.args.self.now now reach (take i piece ++ take 1 rest) (drop 1 rest) f (before.0 ++ found) both in
    let whole_piece : (take i piece ++ take 1 rest) ++ drop 1 rest ≡ piece =
    append_assoc (take i piece) (take 1 rest) (drop 1 rest) ∙ ap (λ (t : List ℕ). take i piece ++ t) (take-append-drop 1 rest) ∙ take-append-drop i piece in
    let piece_taken = subst (λ t. TakesPart c.args.self.now reach t (Err f) (before.0 ++ found) now) whole_piece all in
    let calls = subst (λ (t : List (ℕ × ℕ)). FoldsTo (λ f range t'. goal.F-step g f range.0 range.1 tt t') c.loop-at.sink t c.hand_out.new.sink) c.as_slice.ensures.value c.hand_out.ensures.called in (
      before.0 ++ found,
      folds-append (λ f range t. goal.F-step g f range.0 range.1 tt t) c.args.sink.now before.0 found c.loop-at.sink c.hand_out.new.sink before.1 calls,
      feeds-of (state_laws c.decided_units_stay.ensures.begin c.laws_of_reordering.ensures.last c.laws_of_reordering.ensures.others) c.laws_of_decompositions.ensures.short c.decided_units_stay.ensures.early
          c.args.self.now now reach piece (Err f) (before.0 ++ found) c.reach-reach.ensures.enough piece_taken,
    )

pub loop-at-init : goal.loop-at-init
loop-at-init g c =
    let first = c.feed_letters-at.ensures.taken in
    record {
      callable = c.feed_letters-at.ensures.callable;
      within = c.feed_letters-at.ensures.within;
      taken = (
        first.0,
        first.1,
        takes-append c.args.self.now c.reach-reach.new.self c.feed_letters-at.new.self 0 c.reach-reach.result c.reach-reach.result [] (take c.feed_letters-at.result c.args.piece.now) (Ok tt) [] first.0
            (λ some. omega arith) (λ some. omega arith) c.reach-reach.ensures.taken first.2,
      );
    }

-- a character or a byte, and what follows it
pub loop-at-preserved : goal.loop-at-preserved
loop-at-preserved g c =
    let i = c.loop-at.at in
    let m = c.in-Ok.len in
    let piece = c.args.piece.now in
    let before = c.loop-at.invariant.taken in
    let found = c.step_far-stepped.new.found.items in
    let reach = c.reach-reach.result in
    let now = c.step_far-stepped.new.self in
    let later = c.saturating_sub.result in
    let n = c.feed_letters-at-in-loop-at.result in
    let run = c.feed_letters-at-in-loop-at.ensures.taken in
    let last = c.feed_letters-at-in-loop-at.new.self in
    let stepped = c.in-Ok.ensures.within in
    let left = ap length (take_rest piece i) ∙ length-drop i piece in
    let less = c.loop-at-test.true in
    let fits : i + m ≤ length piece = omega (arith, stepped.1, left, less) in
    let others = take_rest piece (i + m) in
    let taken = subst (λ (t : List ℕ). TakesPart now later (take n t) (Ok tt) run.0 last) others run.2 in
    let step = subst (λ (t : List ℕ). TakesPart c.loop-at.self 0 (take m t) (Ok tt) found now) (take_rest piece i) c.in-Ok.ensures.taken in
    let both = subst (λ t. TakesPart c.args.self.now reach t (Ok tt) (before.0 ++ found) now) (sym (take-add i m piece))
    (takes-append c.args.self.now c.loop-at.self now reach 0 reach (take i piece) (take m (drop i piece)) (Ok tt) before.0 found (λ some. omega arith) (λ some. absurd (omega (arith, some))) before.2 step) in
    let long = length-take-le (i + m) piece fits in
    let all = takes-append c.args.self.now now last reach later reach (take (i + m) piece) (take n (drop (i + m) piece)) (Ok tt) (before.0 ++ found) run.0 (λ some. omega arith)
    (λ some. omega (arith, some, long, c.saturating_sub.ensures)) both taken in
    let calls = subst (λ (t : List (ℕ × ℕ)). FoldsTo (λ f range t'. goal.F-step g f range.0 range.1 tt t') c.loop-at.sink t c.hand_out.new.sink) c.as_slice.ensures.value c.hand_out.ensures.called in
    let so_far = folds-append (λ f range t. goal.F-step g f range.0 range.1 tt t) c.args.sink.now before.0 found c.loop-at.sink c.hand_out.new.sink before.1 calls in
    record {
      callable = c.feed_letters-at-in-loop-at.ensures.callable;
      within = let there = ap length others ∙ length-drop (i + m) piece in let few = c.feed_letters-at-in-loop-at.ensures.within in omega (arith, there, few, fits);
      taken = (
        (before.0 ++ found) ++ run.0,
        folds-append (λ f range t. goal.F-step g f range.0 range.1 tt t) c.args.sink.now (before.0 ++ found) run.0 c.hand_out.new.sink c.feed_letters-at-in-loop-at.new.sink so_far run.1,
        subst (λ t. TakesPart c.args.self.now reach t (Ok tt) ((before.0 ++ found) ++ run.0) last) (sym (take-add (i + m) n piece)) all,
      );
    }

pub returns-clause-fed : goal.returns-clause-fed
returns-clause-fed g c =
    let all = take_all c.loop-at.at c.args.piece.now (omega (arith, c.loop-at-test.false)) in
    let before = c.loop-at.invariant.taken in
    let reach = c.reach-reach.result in (
      before.0,
      before.1,
      feeds-of (state_laws c.decided_units_stay.ensures.begin c.laws_of_reordering.ensures.last c.laws_of_reordering.ensures.others) c.laws_of_decompositions.ensures.short c.decided_units_stay.ensures.early
          c.args.self.now c.loop-at.self reach c.args.piece.now (Ok tt) before.0 c.reach-reach.ensures.enough (subst (λ t. TakesPart c.args.self.now reach t (Ok tt) before.0 c.loop-at.self) all before.2),
    )

-- no fault was reported so far

pub feed_letters-at-requires-clause-none : goal.feed_letters-at-requires-clause-none
feed_letters-at-requires-clause-none g c = (c.reach-reach.ensures.taken 0).none

pub step_far-stepped-requires-clause-none : goal.step_far-stepped-requires-clause-none
step_far-stepped-requires-clause-none g c = (c.loop-at.invariant.taken.2 0).none

pub feed_letters-at-requires-in-loop-at-clause-none : goal.feed_letters-at-requires-in-loop-at-clause-none
feed_letters-at-requires-in-loop-at-clause-none g c = (c.in-Ok.ensures.taken 0).none
