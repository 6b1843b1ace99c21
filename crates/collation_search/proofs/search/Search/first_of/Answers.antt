use Rattle.std.proofs.Common.{◌≡◌, ◌∙◌, ℕ, List, [], ◌++◌, length, slice_get, Option, Some, Result, Ok, Err, sym, ap, subst, arith}
use Rattle.std.proofs.lemmas.Bool.{eqb-true}
use Rattle.std.proofs.lemmas.List.{append-nil, nil_from_length}
use Rattle.collation_matches.specs.declared.faults.TextFault.{TextFault}
use Rattle.collation_matches.specs.Sought.{Sought, IsCompiledFrom, answer_to}
use Rattle.collation_search.specs.Feeding.{fault_of}
use Rattle.collation_search.specs.Indexing.{range_or_fault, IsFirstSoFar}
use Rattle.collation_search.specs.Search.{HasSearched, sought}
use Rattle.collation_search.proofs.FirstLemmas.{first_to, next-piece, first-ended}
use Rattle.collation_search.proofs.search.Search.first_of.Goals as goal

abbrev ok_of : Option (ℕ × ℕ) → Result (Option (ℕ × ℕ)) TextFault
ok_of range = Ok range

pub feed_first-requires : goal.feed_first-requires
feed_first-requires g c = record { none = c.loop-rest.invariant.taken.2.no_fault }

pub returns-in-Err-clause-first : goal.returns-in-Err-clause-first
returns-in-Err-clause-first g c = λ p compiled.
    let i = c.loop-rest.invariant in
    let s = sought c.loop-rest.self in
    let piece = c.split_at.result.0.now in
    let later = c.split_at.result.1.now in
    let all = next-piece c.args.text.now i.taken.0 c.loop-rest.rest.now c.min.result piece later i.taken.1 c.split_at.ensures.front c.split_at.ensures.back in
    let told = c.feed_first.ensures.first p i.taken.0 later (subst (λ (t : Sought). IsCompiledFrom t p) (sym i.same) compiled) i.taken.2 in
    let answered : Err c.in-Err.fault ≡ first_to s p ((i.taken.0 ++ piece) ++ later) = subst (IsFirstSoFar (answer_to s p ((i.taken.0 ++ piece) ++ later))) c.in-Err.is told in
    subst (λ (text : List ℕ). Err c.in-Err.fault ≡ first_to (sought c.args.self.now) p text) (sym all)
    (subst (λ (s : Sought). Err c.in-Err.fault ≡ first_to s p ((i.taken.0 ++ piece) ++ later)) i.same answered)

pub returns-in-Ok-Some-clause-first : goal.returns-in-Ok-Some-clause-first
returns-in-Ok-Some-clause-first g c = λ p compiled.
    let i = c.loop-rest.invariant in
    let s = sought c.loop-rest.self in
    let piece = c.split_at.result.0.now in
    let later = c.split_at.result.1.now in
    let range = c.in-Ok-Some.range in
    let all = next-piece c.args.text.now i.taken.0 c.loop-rest.rest.now c.min.result piece later i.taken.1 c.split_at.ensures.front c.split_at.ensures.back in
    let told = c.feed_first.ensures.first p i.taken.0 later (subst (λ (t : Sought). IsCompiledFrom t p) (sym i.same) compiled) i.taken.2 in
    let answered : Ok (Some range) ≡ first_to s p ((i.taken.0 ++ piece) ++ later) =
    subst (IsFirstSoFar (answer_to s p ((i.taken.0 ++ piece) ++ later))) (c.in-Ok-Some.is ∙ ap ok_of c.in-Ok-Some.field-0-is) told in
    subst (λ (text : List ℕ). Ok (Some range) ≡ first_to (sought c.args.self.now) p text) (sym all)
    (subst (λ (s : Sought). Ok (Some range) ≡ first_to s p ((i.taken.0 ++ piece) ++ later)) i.same answered)

pub loop-rest-preserved : goal.loop-rest-preserved
loop-rest-preserved g c =
    let i = c.loop-rest.invariant in
    let piece = c.split_at.result.0.now in
    record {
      some = omega (arith, c.min-len.ensures, i.some);
      few = omega (arith, c.min-len.ensures);
      same = c.feed_first.ensures.sought ∙ i.same;
      taken = (
        i.taken.0 ++ piece,
        next-piece c.args.text.now i.taken.0 c.loop-rest.rest.now c.min.result piece c.split_at.result.1.now i.taken.1 c.split_at.ensures.front c.split_at.ensures.back,
        c.feed_first.ensures.none i.taken.0 i.taken.2 (c.in-Ok-None.is ∙ ap ok_of c.in-Ok-None.field-0-is),
      );
    }

pub returns-clause-first : goal.returns-clause-first
returns-clause-first g c = λ p compiled.
    let i = c.loop-rest.invariant in
    let text = c.args.text.now in
    let ended = c.end_text-ended.ensures.ended in
    let found = c.end_text-ended.new.found.items in
    let none : c.loop-rest.rest.now ≡ [] = nil_from_length c.loop-rest.rest.now (eqb-true (length c.loop-rest.rest.now) 0 (sym c.is_empty.ensures ∙ c.loop-rest-test.false)) in
    let all : i.taken.0 ≡ text = sym (i.taken.1 ∙ ap (λ t. i.taken.0 ++ t) none ∙ append-nil i.taken.0) in
    let taken = subst (λ (u : List ℕ). HasSearched c.loop-rest.self u []) all i.taken.2 in
    let here = subst (λ (t : Sought). IsCompiledFrom t p) (sym i.same) compiled in
    let first : c.copied.result ≡ slice_get found 0 = c.copied.ensures ∙ c.first.ensures.value ∙ ap (λ (rs : List (ℕ × ℕ)). slice_get rs 0) c.as_slice.ensures.value in
    let answered = first-ended (sought c.loop-rest.self) p text c.end_text-ended.result found (ended.good p text [] here taken) (ended.bad p text [] here taken) in
    subst (λ (s : Sought). c.range_or_fault.result ≡ first_to s p text) i.same
    (c.range_or_fault.ensures ∙ ap (λ (o : Option (ℕ × ℕ)). range_or_fault o (fault_of c.end_text-ended.result)) first ∙ answered)
