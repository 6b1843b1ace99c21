use Rattle.std.proofs.Common.{◌≡◌, ◌∙◌, ℕ, List, [], ◌++◌, length, Option, Result, Ok, refl, sym, ap, subst, arith}
use Rattle.std.proofs.lemmas.Bool.{eqb-true}
use Rattle.std.proofs.lemmas.List.{append-nil, nil_from_length}
use Rattle.collation_matches.specs.declared.faults.TextFault.{TextFault}
use Rattle.collation_matches.specs.Sought.{Sought, IsCompiledFrom, answer_to}
use Rattle.collation_search.specs.Feeding.{fault_of}
use Rattle.collation_search.specs.Search.{sought}
use Rattle.collation_search.proofs.FirstLemmas.{next-piece}
use Rattle.collation_anchored.specs.Answers.{unless_fault}
use Rattle.collation_backward.specs.Backward.{last_up_to, is_fault_before, said_up_to}
use Rattle.collation_backward.proofs.SaidInPieces.{fault-told, piece-taken, piece-last, stop-told, finish-told}
use Rattle.collation_backward.proofs.reading.said_by.Goals as goal

pub loop-rest-init : goal.loop-rest-init
loop-rest-init g c = record {
  some = omega (arith, c.max-len.ensures);
  next = omega arith;
  few = omega arith;
  same = c.begin_again.ensures.sought;
  taken = ([], [], refl, c.begin_again.ensures.stands, refl);
}

abbrev ok_of : Option (ℕ × ℕ) → Result (Option (ℕ × ℕ)) TextFault
ok_of range = Ok range

pub returns-then-is_err-clause-said : goal.returns-then-is_err-clause-said
returns-then-is_err-clause-said g c = λ p compiled.
    let i = c.loop-rest.invariant in
    let s = sought c.args.search.now in
    let to = c.args.to in
    let u = i.taken.0 in
    let handed = i.taken.1 in
    let fed = c.last_of_piece-newer.ensures.fed in
    let ended = c.last_of_piece-newer.result.1 in
    let piece = c.split_at.result.0.now in
    let later = c.split_at.result.1.now in
    let all = next-piece c.args.text.now u c.loop-rest.rest.now c.min.result piece later i.taken.2 c.split_at.ensures.front c.split_at.ensures.back in
    let last = piece-last to handed fed.0 c.last_of_piece-newer.result.0 c.loop-rest.last c.or-last.result fed.2 i.taken.4 c.or-last.ensures in
    c.told.ensures.said
    ∙ ap (λ (o : Option (ℕ × ℕ)). unless_fault (is_fault_before to (fault_of ended)) (fault_of ended) o) last
    ∙ fault-told c.loop-rest.search c.last_of_piece-newer.new.search s p u piece later to handed fed.0 ended i.same compiled (sym c.is_err.ensures.value ∙ c.if-is_err.true) fed.1 i.taken.3
    ∙ ap (λ (t : List ℕ). said_up_to to (answer_to s p t)) (sym all)

pub returns-then-to_come-to-clause-said : goal.returns-then-to_come-to-clause-said
returns-then-to_come-to-clause-said g c = λ p compiled.
    let i = c.loop-rest.invariant in
    let s = sought c.args.search.now in
    let to = c.args.to in
    let u = i.taken.0 in
    let handed = i.taken.1 in
    let fed = c.last_of_piece-newer.ensures.fed in
    let ended = c.last_of_piece-newer.result.1 in
    let new = c.last_of_piece-newer.new.search in
    let piece = c.split_at.result.0.now in
    let later = c.split_at.result.1.now in
    let all = next-piece c.args.text.now u c.loop-rest.rest.now c.min.result piece later i.taken.2 c.split_at.ensures.front c.split_at.ensures.back in
    let last = piece-last to handed fed.0 c.last_of_piece-newer.result.0 c.loop-rest.last c.or-last.result fed.2 i.taken.4 c.or-last.ensures in
    let taken = piece-taken c.loop-rest.search new u piece handed fed.0 ended (sym c.is_err.ensures.value ∙ c.if-is_err.false) fed.1 i.taken.3 in
    ap ok_of last
    ∙ stop-told new s p (u ++ piece) later to c.to_come.result.end (handed ++ fed.0) (fed.1.same_sought ∙ i.same) compiled taken c.if-to_come-to.true c.has_handed_out.ensures.begins c.to_come.ensures.end c.to_come.ensures.fault
    ∙ ap (λ (t : List ℕ). said_up_to to (answer_to s p t)) (sym all)

pub loop-rest-preserved : goal.loop-rest-preserved
loop-rest-preserved g c =
    let i = c.loop-rest.invariant in
    let to = c.args.to in
    let u = i.taken.0 in
    let handed = i.taken.1 in
    let fed = c.last_of_piece-newer.ensures.fed in
    let ended = c.last_of_piece-newer.result.1 in
    let piece = c.split_at.result.0.now in
    let later = c.split_at.result.1.now in
    record {
      some = i.next;
      next = let next = i.next in omega (arith, next, c.min-following.ensures);
      few = omega (arith, c.min-following.ensures);
      same = fed.1.same_sought ∙ i.same;
      taken = (
        u ++ piece,
        handed ++ fed.0,
        next-piece c.args.text.now u c.loop-rest.rest.now c.min.result piece later i.taken.2 c.split_at.ensures.front c.split_at.ensures.back,
        piece-taken c.loop-rest.search c.last_of_piece-newer.new.search u piece handed fed.0 ended (sym c.is_err.ensures.value ∙ c.if-is_err.false) fed.1 i.taken.3,
        piece-last to handed fed.0 c.last_of_piece-newer.result.0 c.loop-rest.last c.or-last.result fed.2 i.taken.4 c.or-last.ensures,
      );
    }

pub returns-clause-said : goal.returns-clause-said
returns-clause-said g c = λ p compiled.
    let i = c.loop-rest.invariant in
    let s = sought c.args.search.now in
    let to = c.args.to in
    let u = i.taken.0 in
    let handed = i.taken.1 in
    let found = c.finish_text-ended.new.found.items in
    let ended = c.finish_text-ended.result in
    let none : c.loop-rest.rest.now ≡ [] = nil_from_length c.loop-rest.rest.now (eqb-true (length c.loop-rest.rest.now) 0 (sym c.is_empty.ensures ∙ c.loop-rest-test.false)) in
    let all : u ≡ c.args.text.now = sym (i.taken.2 ∙ ap (λ t. u ++ t) none ∙ append-nil u) in
    let here = subst (λ (t : Sought). IsCompiledFrom t p) (sym i.same) compiled in
    let last = piece-last to handed found c.last_of_found.result c.loop-rest.last c.or.result (c.last_of_found.ensures ∙ ap (last_up_to to) c.as_slice.ensures.value) i.taken.4 c.or.ensures in
    c.told-2.ensures.said
    ∙ ap (λ (o : Option (ℕ × ℕ)). unless_fault (is_fault_before to (fault_of ended)) (fault_of ended) o) last
    ∙ finish-told c.loop-rest.search s p u to (handed ++ found) ended i.same
    (c.finish_text-ended.ensures.ended.good p u handed here i.taken.3) (c.finish_text-ended.ensures.ended.bad p u handed here i.taken.3)
    ∙ ap (λ (t : List ℕ). said_up_to to (answer_to s p t)) all
