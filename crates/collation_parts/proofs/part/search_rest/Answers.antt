-- The part, whether it ends at a fault, where no range of it is to come, or at the end of the text.
use Rattle.std.proofs.Common.{◌≡◌, ◌∙◌, ℕ, List, [], ◌++◌, length, sym, ap, subst, refl, arith}
use Rattle.std.proofs.lemmas.Bool.{eqb-true}
use Rattle.std.proofs.lemmas.List.{append-nil, nil_from_length}
use Rattle.std.specs.List.{FoldsTo}
use Rattle.collation_matches.specs.Answer.{Answer}
use Rattle.collation_matches.specs.GoodPrefix.{fault}
use Rattle.collation_matches.specs.Offsets.{fault_moved}
use Rattle.collation_matches.specs.Sought.{Sought, IsCompiledFrom, answer_to}
use Rattle.collation_search.specs.Feeding.{fault_of}
use Rattle.collation_search.specs.Search.{sought}
use Rattle.collation_search.proofs.FirstLemmas.{next-piece}
use Rattle.collation_parts.specs.Handing.{handed_on}
use Rattle.collation_parts.specs.Parts.{fault_by}
use Rattle.collation_parts.proofs.Calls.{folded, at-fault, goes-on, none-to-come, no-fault-there}
use Rattle.collation_parts.proofs.part.search_rest.Goals as goal

pub returns-then-is_err-clause-ranges : goal.returns-then-is_err-clause-ranges
returns-then-is_err-clause-ranges g c = λ p compiled.
    let i = c.loop-rest.invariant in
    let s = sought c.args.search.now in
    let u = i.taken.0 in
    let handed = i.taken.1 in
    let fed = c.feed_part-fed.ensures.fed in
    let result = c.feed_part-fed.result in
    let piece = c.split_at.result.0.now in
    let later = c.split_at.result.1.now in
    let all = next-piece c.args.text.now u c.loop-rest.rest.now c.min.result piece later i.taken.2 c.split_at.ensures.front c.split_at.ensures.back in
    let here = subst (λ (t : Sought). IsCompiledFrom t p) (sym i.same) compiled in
    let answered = at-fault c.loop-rest.search c.feed_part-fed.new.search p u piece later handed fed.0 result fed.1 i.taken.3 here (sym c.is_err.ensures.value ∙ c.if-is_err.true) in
    let same = ap (answer_to s p) all
    ∙ subst (λ (t : Sought). answer_to t p ((u ++ piece) ++ later) ≡ record { ranges = handed ++ fed.0; fault = fault_of result }) i.same answered in
    folded _ c.args.sink.now c.loop-rest.sink c.feed_part-fed.new.sink c.args.part.from c.args.part.len handed fed.0 (answer_to s p c.args.text.now).ranges i.taken.4 fed.2
    (ap (λ (a : Answer). a.ranges) same)

pub returns-then-is_err-clause-fault : goal.returns-then-is_err-clause-fault
returns-then-is_err-clause-fault g c = λ p compiled.
    let i = c.loop-rest.invariant in
    let s = sought c.args.search.now in
    let u = i.taken.0 in
    let handed = i.taken.1 in
    let fed = c.feed_part-fed.ensures.fed in
    let result = c.feed_part-fed.result in
    let piece = c.split_at.result.0.now in
    let later = c.split_at.result.1.now in
    let all = next-piece c.args.text.now u c.loop-rest.rest.now c.min.result piece later i.taken.2 c.split_at.ensures.front c.split_at.ensures.back in
    let here = subst (λ (t : Sought). IsCompiledFrom t p) (sym i.same) compiled in
    let answered = at-fault c.loop-rest.search c.feed_part-fed.new.search p u piece later handed fed.0 result fed.1 i.taken.3 here (sym c.is_err.ensures.value ∙ c.if-is_err.true) in
    let same = ap (answer_to s p) all
    ∙ subst (λ (t : Sought). answer_to t p ((u ++ piece) ++ later) ≡ record { ranges = handed ++ fed.0; fault = fault_of result }) i.same answered in
    c.told.ensures ∙ ap (λ (a : Answer). fault_moved c.args.part.from (fault_by c.args.part.len a.fault)) (sym same)

pub returns-then-to_come-part-2-clause-ranges : goal.returns-then-to_come-part-2-clause-ranges
returns-then-to_come-part-2-clause-ranges g c = λ p compiled.
    let i = c.loop-rest.invariant in
    let s = sought c.args.search.now in
    let u = i.taken.0 in
    let fed = c.feed_part-fed.ensures.fed in
    let found = i.taken.1 ++ fed.0 in
    let from = c.args.part.from in
    let len = c.args.part.len in
    let new = c.feed_part-fed.new.search in
    let piece = c.split_at.result.0.now in
    let later = c.split_at.result.1.now in
    let text = (u ++ piece) ++ later in
    let all = next-piece c.args.text.now u c.loop-rest.rest.now c.min.result piece later i.taken.2 c.split_at.ensures.front c.split_at.ensures.back in
    let same : sought new ≡ s = fed.1.same_sought ∙ i.same in
    let here = subst (λ (t : Sought). IsCompiledFrom t p) (sym same) compiled in
    let stands = goes-on c.loop-rest.search new u piece i.taken.1 fed.0 c.feed_part-fed.result fed.1 i.taken.3 (sym c.is_err.ensures.value ∙ c.if-is_err.false) in
    let begun = c.has_handed_out.ensures.begins p (u ++ piece) later found here stands in
    let none = none-to-come from len (answer_to (sought new) p text).ranges found begun.0 begun.1
    (λ range there.
    let start = c.to_come-to_come.ensures.start p (u ++ piece) later found range here stands there in
    omega (arith, start, c.if-to_come-part.true)) in
    let told = ap (λ (t : List ℕ). handed_on from len (answer_to s p t).ranges) all
    ∙ ap (λ (t : Sought). handed_on from len (answer_to t p text).ranges) (sym same) ∙ none in
    subst (λ (rs : List (ℕ × ℕ)). FoldsTo (λ f range t. goal.F-step g f range.0 range.1 tt t) c.args.sink.now rs c.feed_part-fed.new.sink) (sym told)
    (folded _ c.args.sink.now c.loop-rest.sink c.feed_part-fed.new.sink from len i.taken.1 fed.0 found i.taken.4 fed.2 refl)

pub returns-then-to_come-part-2-clause-fault : goal.returns-then-to_come-part-2-clause-fault
returns-then-to_come-part-2-clause-fault g c = λ p compiled.
    let i = c.loop-rest.invariant in
    let s = sought c.args.search.now in
    let u = i.taken.0 in
    let fed = c.feed_part-fed.ensures.fed in
    let found = i.taken.1 ++ fed.0 in
    let new = c.feed_part-fed.new.search in
    let piece = c.split_at.result.0.now in
    let later = c.split_at.result.1.now in
    let all = next-piece c.args.text.now u c.loop-rest.rest.now c.min.result piece later i.taken.2 c.split_at.ensures.front c.split_at.ensures.back in
    let stands = goes-on c.loop-rest.search new u piece i.taken.1 fed.0 c.feed_part-fed.result fed.1 i.taken.3 (sym c.is_err.ensures.value ∙ c.if-is_err.false) in
    no-fault-there s p c.args.text.now c.args.part.from c.args.part.len
    (λ f is.
    let behind = c.to_come-to_come.ensures.fault (u ++ piece) later found stands f (ap fault (sym all) ∙ is) in
    omega (arith, behind, c.if-to_come-part-2.true))

pub loop-rest-preserved : goal.loop-rest-preserved
loop-rest-preserved g c =
    let i = c.loop-rest.invariant in
    let u = i.taken.0 in
    let fed = c.feed_part-fed.ensures.fed in
    let found = i.taken.1 ++ fed.0 in
    let new = c.feed_part-fed.new.search in
    let piece = c.split_at.result.0.now in
    let later = c.split_at.result.1.now in
    record {
      some = omega (arith, c.min-behind.ensures, i.more);
      more = omega (arith, c.min-behind.ensures, i.more);
      few = omega (arith, c.min-behind.ensures);
      callable = c.feed_part-fed.ensures.callable;
      same = fed.1.same_sought ∙ i.same;
      taken = (
        u ++ piece,
        found,
        next-piece c.args.text.now u c.loop-rest.rest.now c.min.result piece later i.taken.2 c.split_at.ensures.front c.split_at.ensures.back,
        goes-on c.loop-rest.search new u piece i.taken.1 fed.0 c.feed_part-fed.result fed.1 i.taken.3 (sym c.is_err.ensures.value ∙ c.if-is_err.false),
        folded _ c.args.sink.now c.loop-rest.sink c.feed_part-fed.new.sink c.args.part.from c.args.part.len i.taken.1 fed.0 found i.taken.4 fed.2 refl,
      );
    }

pub returns-clause-ranges : goal.returns-clause-ranges
returns-clause-ranges g c = λ p compiled.
    let i = c.loop-rest.invariant in
    let s = sought c.args.search.now in
    let u = i.taken.0 in
    let handed = i.taken.1 in
    let ended = c.finish_part-ended.ensures.ended in
    let result = c.finish_part-ended.result in
    let none : c.loop-rest.rest.now ≡ [] = nil_from_length c.loop-rest.rest.now (eqb-true (length c.loop-rest.rest.now) 0 (sym c.is_empty.ensures ∙ c.loop-rest-test.false)) in
    let all : u ≡ c.args.text.now = sym (i.taken.2 ∙ ap (λ t. u ++ t) none ∙ append-nil u) in
    let here = subst (λ (t : Sought). IsCompiledFrom t p) (sym i.same) compiled in
    let answered = ended.2 p u handed here i.taken.3 in
    let same = ap (answer_to s p) (sym all)
    ∙ subst (λ (t : Sought). answer_to t p u ≡ record { ranges = handed ++ ended.0; fault = fault_of result }) i.same answered in
    folded _ c.args.sink.now c.loop-rest.sink c.finish_part-ended.new.sink c.args.part.from c.args.part.len handed ended.0 (answer_to s p c.args.text.now).ranges i.taken.4 ended.1
    (ap (λ (a : Answer). a.ranges) same)

pub returns-clause-fault : goal.returns-clause-fault
returns-clause-fault g c = λ p compiled.
    let i = c.loop-rest.invariant in
    let s = sought c.args.search.now in
    let u = i.taken.0 in
    let handed = i.taken.1 in
    let ended = c.finish_part-ended.ensures.ended in
    let result = c.finish_part-ended.result in
    let none : c.loop-rest.rest.now ≡ [] = nil_from_length c.loop-rest.rest.now (eqb-true (length c.loop-rest.rest.now) 0 (sym c.is_empty.ensures ∙ c.loop-rest-test.false)) in
    let all : u ≡ c.args.text.now = sym (i.taken.2 ∙ ap (λ t. u ++ t) none ∙ append-nil u) in
    let here = subst (λ (t : Sought). IsCompiledFrom t p) (sym i.same) compiled in
    let answered = ended.2 p u handed here i.taken.3 in
    let same = ap (answer_to s p) (sym all)
    ∙ subst (λ (t : Sought). answer_to t p u ≡ record { ranges = handed ++ ended.0; fault = fault_of result }) i.same answered in
    c.told-2.ensures ∙ ap (λ (a : Answer). fault_moved c.args.part.from (fault_by c.args.part.len a.fault)) (sym same)
