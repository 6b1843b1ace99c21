use Rattle.std.proofs.Common.{◌∙◌, List, [], ◌∷◌, ◌++◌, sym, ap}
use Rattle.nfd_points.specs.declared.points.Point.{Point}
use Rattle.collation_table.proofs.OverlayLemmas.{take-at}
use Rattle.collation_finder.proofs.pausing.move_points.Goals as goal

pub loop-i-preserved : goal.loop-i-preserved
loop-i-preserved c =
    c.push.ensures.items ∙ ap (λ (ps : List Point). ps ++ c.point.result ∷ []) c.loop-i.invariant ∙ sym (take-at c.args.window.now.points c.loop-i.i c.point.result c.point.ensures)
