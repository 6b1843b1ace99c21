use Rattle.std.specs.List.{FoldsTo}
use Rattle.std.proofs.Common.{rules, ◌≡◌, ◌∙◌, ℕ, ◌+◌, max, take, List, [], ◌∷◌, ◌++◌, Option, Bor, sym, ap, subst, refl, arith}
use Rattle.std.proofs.lemmas.List.{take_all}
use Rattle.collation_matches.specs.declared.faults.TextFault.{TextFault}
use Rattle.collation_matches.specs.Sought.{Sought}
use Rattle.collation_search.specs.Resuming.{IsResumedFrom}
use Rattle.collation_search.specs.Pieces.{joined, most_records_after, most_words, AreUnderWay, HasStates}
use Rattle.collation_walk.proofs.Folds.{folds-append}
use Rattle.collation_search.proofs.PieceLemmas.{told, most-more, under_way-begun, under_way-on, under_way-more, under_way-ends, has_states-more}
use Rattle.collation_search.proofs.StateLemmas.{state_laws}
use Rattle.collation_search.proofs.UnderWay.{none-more, under_way-records, most_records-more}
use Rattle.collation_search.proofs.pieces.search_in_pieces.Goals as goal

pub loop-piece-init : goal.loop-piece-init
unfolding most_words
loop-piece-init g c =
    let s : Sought = record { table = g.W.Weights.table c.args.table.now; pattern = c.args.pattern.now; select = c.args.select } in
    let begun = c.in_ok-words.ensures.begun in (
      search rules,
      omega arith,
      ([], search rules, under_way-begun s c.in_ok-words.words.items begun),
      ([], begun, refl),
      none-more s,
    )

pub loop-piece-preserved : goal.loop-piece-preserved
loop-piece-preserved g c =
    let i = c.loop-piece.piece-index in
    let pieces = c.args.pieces.now in
    let s : Sought = record { table = g.W.Weights.table c.args.table.now; pattern = c.args.pattern.now; select = c.args.select } in
    let none : Bor (List ℕ) = record { ref_ptr = (0, 0); now = [] } in
    let before = c.loop-piece.invariant.2 in
    let states = c.loop-piece.invariant.3 in
    let passed = c.in_ok-records.ensures.passed in
    let few = c.in_ok-records.ensures.few in
    let counted = c.in_ok-records.ensures.counted in
    let greatest : c.max-most_records.result ≡ max c.loop-piece.most_records c.in_ok-records.records = c.max-most_records.ensures in
    let most = most-more states.0 c.take_piece.new.words.items in
    let laws = state_laws c.decided_units_stay.ensures.begin c.laws_of_reordering.ensures.last c.laws_of_reordering.ensures.others in
    let under_way = under_way-more s pieces i none c.loop-piece.words.items c.take_piece.new.words.items before.0 passed.0 c.loop-piece-test.true passed.2 before.2 in
    let here = under_way-records laws c.laws_of_states.ensures.records s c.take_piece.new.words.items (joined (take (i + 1) pieces)) (before.0 ++ passed.0) under_way in
    let more = most_records-more s pieces i none c.loop-piece-test.true in (
      c.take_piece.ensures.callable,
      omega (arith, greatest, few, c.loop-piece.invariant.1),
      (
        before.0 ++ passed.0,
        folds-append (λ f range t. goal.F-step g f range.0 range.1 tt t) c.args.sink.now before.0 passed.0 c.loop-piece.sink c.take_piece.new.sink before.1 passed.1,
        under_way,
      ),
      (
        states.0 ++ c.take_piece.new.words.items ∷ [],
        has_states-more s pieces i none states.0 c.loop-piece.words.items passed.0 c.take_piece.new.words.items c.loop-piece-test.true states.1 passed.2,
        omega (arith, greatest, most, counted, states.2),
      ),
      omega (arith, greatest, more, here, counted, c.loop-piece.invariant.4),
    )

pub returns-clause-answer : goal.returns-clause-answer
returns-clause-answer g c = λ text compiled.
    let s : Sought = record { table = g.W.Weights.table c.args.table.now; pattern = c.args.pattern.now; select = c.args.select } in
    let before = c.loop-piece.invariant.2 in
    let words = c.loop-piece.words.items in
    let all = take_all c.loop-piece.piece-index c.args.pieces.now (omega (arith, c.loop-piece-test.false)) in
    let whole = subst (λ t. AreUnderWay g.W.Weights s words (joined t) before.0) all before.2 in
    let goes_on = subst (λ (t : List ℕ). IsResumedFrom c.in_ok-search.search s t) c.deref.ensures.value c.in_ok-search.ensures.goes_on in
    let on = under_way-on s words (joined c.args.pieces.now) before.0 c.in_ok-search.search goes_on whole in
    let found = c.finish.new.found.items in
    let end = c.finish.ensures.ended in
    let calls = subst (λ (t : List (ℕ × ℕ)). FoldsTo (λ f range t'. goal.F-step g f range.0 range.1 tt t') c.loop-piece.sink t c.hand_out.new.sink) c.as_slice.ensures.value c.hand_out.ensures.called in (
      before.0 ++ found,
      folds-append (λ f range t. goal.F-step g f range.0 range.1 tt t) c.args.sink.now before.0 found c.loop-piece.sink c.hand_out.new.sink before.1 calls,
      under_way-ends c.in_ok-search.search text (joined c.args.pieces.now) before.0 found c.finish.result end.good end.bad end.again s on compiled
          ∙ ap (λ (f : Option TextFault). told (before.0 ++ found) f) (sym c.err-fault.ensures.value),
    )

pub returns-clause-states : goal.returns-clause-states
returns-clause-states g c =
    let s : Sought = record { table = g.W.Weights.table c.args.table.now; pattern = c.args.pattern.now; select = c.args.select } in
    let states = c.loop-piece.invariant.3 in
    let words = c.loop-piece.words.items in
    let all = take_all c.loop-piece.piece-index c.args.pieces.now (omega (arith, c.loop-piece-test.false)) in
    (states.0, words, subst (λ t. HasStates g.W.Weights s t states.0 words) all states.1, states.2)

pub returns-clause-most : goal.returns-clause-most
returns-clause-most g c =
    let s : Sought = record { table = g.W.Weights.table c.args.table.now; pattern = c.args.pattern.now; select = c.args.select } in
    let all = take_all c.loop-piece.piece-index c.args.pieces.now (omega (arith, c.loop-piece-test.false)) in
    c.loop-piece.invariant.4 ∙ ap (most_records_after s []) all
