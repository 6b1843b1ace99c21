-- The part, counted from the beginning of the text.
use Rattle.std.proofs.Common.{◌≡◌, ◌∙◌, ℕ, ◌+◌, ◌-◌, List, drop, sym, ap, subst, refl, arith}
use Rattle.std.proofs.lemmas.List.{drop_min, length-drop}
use Rattle.std.specs.List.{FoldsTo}
use Rattle.collation_matches.specs.Offsets.{fault_moved}
use Rattle.collation_matches.specs.Sought.{Sought, IsCompiledFrom, answer_to}
use Rattle.collation_search.specs.Search.{sought}
use Rattle.collation_parts.specs.Handing.{handed_on}
use Rattle.collation_parts.specs.Parts.{fault_by}
use Rattle.collation_parts.proofs.Calls.{part-ranges, part-fault, no-ranges, no-fault}
use Rattle.collation_parts.proofs.part.search_part.Goals as goal

pub returns-then-to-from-clause-ranges : goal.returns-then-to-from-clause-ranges
returns-then-to-from-clause-ranges g c = λ p compiled.
    let none = no-ranges (sought c.args.search.now) p c.args.text.now c.args.from c.args.to (omega (arith, c.if-to-from.true)) in
    subst (λ (rs : List (ℕ × ℕ)). FoldsTo (λ f range t. goal.F-step g f range.0 range.1 tt t) c.args.sink.now rs c.args.sink.now) (sym none) refl

pub returns-then-to-from-clause-fault : goal.returns-then-to-from-clause-fault
returns-then-to-from-clause-fault g c = λ p compiled.
    sym (no-fault (sought c.args.search.now) p c.args.text.now c.args.from c.args.to (omega (arith, c.if-to-from.true)))

pub returns-clause-ranges : goal.returns-clause-ranges
returns-clause-ranges g c = λ p compiled.
    let s = sought c.args.search.now in
    let text = c.args.text.now in
    let from = c.args.from in
    let to = c.args.to in
    let len = to - from in
    let same = c.begin_again.ensures.sought in
    let rest : c.split_at.result.1.now ≡ drop from text = c.split_at.ensures.back ∙ ap (λ n. drop n text) c.min.ensures ∙ drop_min from text in
    let here = subst (λ (t : Sought). IsCompiledFrom t p) (sym same) compiled in
    let sum : from + len ≡ to = omega (arith, c.if-to-from.false) in
    let told = ap (λ (t : Sought). handed_on from len (answer_to t p c.split_at.result.1.now).ranges) same
    ∙ ap (λ (t : List ℕ). handed_on from len (answer_to s p t).ranges) rest
    ∙ part-ranges s p text from len to sum (omega (arith, length-drop from text)) in
    subst (λ (rs : List (ℕ × ℕ)). FoldsTo (λ f range t. goal.F-step g f range.0 range.1 tt t) c.args.sink.now rs c.search_rest-ended.new.sink) told
    (c.search_rest-ended.ensures.ranges p here)

pub returns-clause-fault : goal.returns-clause-fault
returns-clause-fault g c = λ p compiled.
    let s = sought c.args.search.now in
    let text = c.args.text.now in
    let from = c.args.from in
    let to = c.args.to in
    let len = to - from in
    let same = c.begin_again.ensures.sought in
    let rest : c.split_at.result.1.now ≡ drop from text = c.split_at.ensures.back ∙ ap (λ n. drop n text) c.min.ensures ∙ drop_min from text in
    let here = subst (λ (t : Sought). IsCompiledFrom t p) (sym same) compiled in
    let sum : from + len ≡ to = omega (arith, c.if-to-from.false) in
    c.search_rest-ended.ensures.fault p here
    ∙ ap (λ (t : Sought). fault_moved from (fault_by len (answer_to t p c.split_at.result.1.now).fault)) same
    ∙ ap (λ (t : List ℕ). fault_moved from (fault_by len (answer_to s p t).fault)) rest
    ∙ part-fault s p text from len to sum
