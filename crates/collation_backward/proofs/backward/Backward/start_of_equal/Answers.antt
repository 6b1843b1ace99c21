use Rattle.std.proofs.Common.{◌∙◌, Bool, drop, Result, Ok, sym, ap}
use Rattle.std.proofs.lemmas.List.{drop_min}
use Rattle.collation_matches.specs.declared.faults.TextFault.{TextFault}
use Rattle.collation_backward.specs.Going.{sought_by}
use Rattle.collation_backward.proofs.StartTold.{start-of, start_by}
use Rattle.collation_backward.proofs.backward.Backward.start_of_equal.Goals as goal

abbrev answer_of : Bool → Result Bool TextFault
answer_of equal = Ok equal

pub returns-in-Ok-true-clause-start : goal.returns-in-Ok-true-clause-start
returns-in-Ok-true-clause-start g c = λ p end compiled good.
    let self = c.args.self.now in
    let text = c.args.text.now in
    let here = c.split_at.ensures.back ∙ ap (λ n. drop n text) c.min.ensures ∙ drop_min c.args.start text in
    ap (start_by c.args.start) (sym (c.in-Ok-true.is ∙ ap answer_of c.in-Ok-true.field-0-test))
    ∙ start-of (sought_by self) (g.W.Weights.table self.anchored.table.now) self.anchored.pattern.now p text c.split_at.result.1.now c.args.start end c.equals.result
    self.anchored_table self.anchored_pattern compiled good here (c.equals.ensures.answer p)

pub returns-in-Ok-false-clause-start : goal.returns-in-Ok-false-clause-start
returns-in-Ok-false-clause-start g c = λ p end compiled good.
    let self = c.args.self.now in
    let text = c.args.text.now in
    let here = c.split_at.ensures.back ∙ ap (λ n. drop n text) c.min.ensures ∙ drop_min c.args.start text in
    ap (start_by c.args.start) (sym (c.in-Ok-false.is ∙ ap answer_of c.in-Ok-false.field-0-test))
    ∙ start-of (sought_by self) (g.W.Weights.table self.anchored.table.now) self.anchored.pattern.now p text c.split_at.result.1.now c.args.start end c.equals.result
    self.anchored_table self.anchored_pattern compiled good here (c.equals.ensures.answer p)

pub returns-in-Err-clause-start : goal.returns-in-Err-clause-start
returns-in-Err-clause-start g c = λ p end compiled good.
    let self = c.args.self.now in
    let text = c.args.text.now in
    let here = c.split_at.ensures.back ∙ ap (λ n. drop n text) c.min.ensures ∙ drop_min c.args.start text in
    ap (start_by c.args.start) (sym c.in-Err.is)
    ∙ start-of (sought_by self) (g.W.Weights.table self.anchored.table.now) self.anchored.pattern.now p text c.split_at.result.1.now c.args.start end c.equals.result
    self.anchored_table self.anchored_pattern compiled good here (c.equals.ensures.answer p)
