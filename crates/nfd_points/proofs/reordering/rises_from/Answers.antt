use Rattle.std.proofs.Common.{sym, ap, ◌∙◌}
use Rattle.std.proofs.Math.ListN.{drop_of_length-le}
use Rattle.nfd_points.specs.Reordering.{rises_from}
use Rattle.nfd_points.proofs.RisingLemmas.{rises-on, falls-here, rises_from-nil}
use Rattle.nfd_points.proofs.reordering.rises_from.Goals as goal

pub returns-then-point-class : goal.returns-then-point-class
returns-then-point-class c =
    sym (falls-here c.loop-point.class c.args.points.now c.loop-point.point-index _ c.loop-point-test.true c.if-point-class.true)
    ∙ c.loop-point.invariant

pub loop-point-preserved : goal.loop-point-preserved
loop-point-preserved c =
    sym (rises-on c.loop-point.class c.args.points.now c.loop-point.point-index _ c.loop-point-test.true c.if-point-class.false)
    ∙ c.loop-point.invariant

pub returns : goal.returns
returns c =
    sym (rises_from-nil c.loop-point.class)
    ∙ ap (rises_from c.loop-point.class) (sym (drop_of_length-le c.args.points.now c.loop-point-test.false)) ∙ c.loop-point.invariant
