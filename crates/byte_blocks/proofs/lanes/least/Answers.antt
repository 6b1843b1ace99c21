use Rattle.std.proofs.Common.{min, get_or, ltb, sym, subst, w8}
use Rattle.std.proofs.lemmas.Simd.{tops_compared}
use Rattle.std.specs.Simd.Lanes.{sel_l}
use Rattle.byte_blocks.specs.Lanes.{HasLanes}
use Rattle.byte_blocks.proofs.LaneLemmas.{least-lanes}
use Rattle.byte_blocks.proofs.lanes.least.Goals as goal

pub returns : goal.returns
returns c =
    let a = c.args.a in
    let b = c.args.b in
    subst (λ ms. HasLanes (sel_l ms a b) (λ k. min (get_or a k 0) (get_or b k 0))) (sym (tops_compared w8 ltb a b)) (least-lanes a b c.fits-a.0 c.fits-b.0)
