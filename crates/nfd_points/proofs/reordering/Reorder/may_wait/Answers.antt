use Rattle.std.proofs.Common.{sym, ◌∙◌, arith}
use Rattle.nfd_points.proofs.RisingLemmas.{rises-marks, rises-order, rises-held}
use Rattle.nfd_points.proofs.reordering.Reorder.may_wait.Goals as goal

pub returns-then-points-le-MOST_WAITING : goal.returns-then-points-le-MOST_WAITING
returns-then-points-le-MOST_WAITING c = (
  λ h.
      let rises = sym c.rises_from.ensures ∙ h in
      record {
        non_starters = rises-marks 1 c.args.points.now (omega arith) rises;
        in_order = rises-order 1 c.args.points.now rises;
        few = omega arith;
        sound = c.requires;
      },
  λ h. c.rises_from.ensures ∙ rises-held c.args.points.now h.non_starters h.in_order,
)
