use Rattle.byte_dfa.proofs.MoveLemmas.{leads-on}
use Rattle.byte_dfa.proofs.four_runs.run_all.Goals as goal

pub strides-preserved : goal.strides-preserved
strides-preserved c =
    let cells = c.args.cells.now in
    let piece = c.args.piece.now in
    let begun = c.args.begun in
    let now = c.strides.now in
    let next = c.in-Some.next in
    let run = c.strides.invariant in
    let more = c.in-Some.ensures.run in
    (leads-on cells piece begun.first.at begun.first.row now.first.at now.first.row next.first.at next.first.row run.0 more.0, (leads-on cells piece begun.second.at begun.second.row now.second.at now.second.row next.second.at next.second.row run.1.0 more.1.0, (leads-on cells piece begun.third.at begun.third.row now.third.at now.third.row next.third.at next.third.row run.1.1.0 more.1.1.0, leads-on cells piece begun.fourth.at begun.fourth.row now.fourth.at now.fourth.row next.fourth.at next.fourth.row run.1.1.1 more.1.1.1)))
