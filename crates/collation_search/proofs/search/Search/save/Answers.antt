-- What a refused append left goes away again.
use Rattle.std.proofs.Common.{◌≡◌, take, length, vec_len, arith, ap, ◌∙◌}
use Rattle.std.proofs.lemmas.Result.{on_err_weaker}
use Rattle.collation_search.proofs.SavingLemmas.{take-begins}
use Rattle.collation_search.specs.Search.{sought}
use Rattle.collation_search.proofs.StateLemmas.{state_laws}
use Rattle.collation_search.proofs.UnderWay.{under_way-known}
use Rattle.collation_search.proofs.search.Search.save.Goals as goal

pub returns-then-is_err-clause-kept : goal.returns-then-is_err-clause-kept
returns-then-is_err-clause-kept g c =
    let w0 = c.args.words.now.items in
    let same : vec_len c.args.words.now ≡ length w0 = omega arith in
    let w1 = c.append_state-saved.new.words.items in
    on_err_weaker c.append_state-saved.result
    (λ b. c.truncate.ensures.items ∙ ap (λ n. take n w1) (c.len-before.ensures ∙ same) ∙ take-begins w0 w1 b)
    c.append_state-saved.ensures.begun

pub returns-then-is_err-clause-state : goal.returns-then-is_err-clause-state
returns-then-is_err-clause-state g c = λ u handed h.
    let laws = state_laws c.decided_units_stay.ensures.begin c.laws_of_reordering.ensures.last c.laws_of_reordering.ensures.others in
    (under_way-known laws c.args.self.now (sought c.args.self.now) u handed h).words_are

pub returns-else-is_err-clause-state : goal.returns-else-is_err-clause-state
returns-else-is_err-clause-state g c = λ u handed h.
    let laws = state_laws c.decided_units_stay.ensures.begin c.laws_of_reordering.ensures.last c.laws_of_reordering.ensures.others in
    (under_way-known laws c.args.self.now (sought c.args.self.now) u handed h).words_are
