use Rattle.std.proofs.Common.{◌∙◌, get_or, take, sym, ap}
use Rattle.std.proofs.lemmas.List.{take_more}
use Rattle.collation_backward.specs.Backward.{last_up_to}
use Rattle.collation_backward.proofs.Ranges.{up-to-more, up-to-late}
use Rattle.collation_backward.proofs.reading.last_of_found.Goals.{then-range-to, else-range-to}
use Rattle.collation_backward.proofs.reading.last_of_found.Goals as goal

pub loop-range-preserved : goal.loop-range-preserved
loop-range-preserved c =
    let xs = c.args.ranges.now in
    let i = c.loop-range.range-index in
    let to = c.args.to in
    let more = ap (last_up_to to) (take_more xs i (0, 0) c.loop-range-test.true) in
    elim c.if-range-to.branch [
      | then-range-to w ↦ w.last-is ∙ sym (more ∙ up-to-more to (take i xs) (get_or xs i (0, 0)) w.if-range-to.true)
      | else-range-to w ↦ w.last-is ∙ c.loop-range.invariant ∙ sym (more ∙ up-to-late to (take i xs) (get_or xs i (0, 0)) w.if-range-to.false)
    ]
