-- The range that is found is handed out where the last one of a chain does not reach into it.
use Rattle.std.proofs.Common.{ℕ, List, ◌∷◌, ◌++◌, [], option_to_list, sym, ap, ◌∙◌}
use Rattle.collation_matches.proofs.SelectingLemmas.{selected_after-nil, selected_after-passed, selected_after-taken, remembered-all}
use Rattle.collation_walk.proofs.WalkSteps.{walks-select}
use Rattle.collation_walk.proofs.walk.Walk.end.Goals as goal

pub returns-in_err-range-clause-found : goal.returns-in_err-range-clause-found
returns-in_err-range-clause-found c = λ items ranges h.
    let w = c.args.self.now in
    ap (λ (rs : List (ℕ × ℕ)). ranges ++ rs) (ap option_to_list c.from_residual.ensures ∙ sym (selected_after-nil w.select w.last_end))
    ∙ walks-select c.args.pattern.now.keys items ranges [] w c.args.end h (c.in_err-range.ensures.found items ranges h)

pub returns-then-range-self-clause-found : goal.returns-then-range-self-clause-found
returns-then-range-self-clause-found c = λ items ranges h.
    let w = c.args.self.now in
    let range = c.in_ok-range.range in
    ap (λ (rs : List (ℕ × ℕ)). ranges ++ rs)
    (sym (selected_after-passed w.select w.last_end range c.if-range-self.true (λ all. h.last_end ∙ remembered-all ranges w.select all)))
    ∙ walks-select c.args.pattern.now.keys items ranges (range ∷ []) w c.args.end h (c.in_ok-range.ensures.found items ranges h)

pub returns-clause-found : goal.returns-clause-found
returns-clause-found c = λ items ranges h.
    let w = c.args.self.now in
    let range = c.in_ok-range.range in
    ap (λ (rs : List (ℕ × ℕ)). ranges ++ rs) (sym (selected_after-taken w.select w.last_end range c.if-range-self.false))
    ∙ walks-select c.args.pattern.now.keys items ranges (range ∷ []) w c.args.end h (c.in_ok-range.ensures.found items ranges h)
