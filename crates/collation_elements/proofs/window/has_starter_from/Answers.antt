use Rattle.std.proofs.Common.{◌<◌, ◌||◌, ◌+◌, length, drop, sym, ◌∙◌, ap, arith}
use Rattle.std.specs.List.{list_any}
use Rattle.nfd_points.specs.Points.{is_starter}
use Rattle.collation_elements.proofs.Deciding.{starter_from}
use Rattle.collation_elements.proofs.window.has_starter_from.Goals as goal

pub returns-then-has_starter_at : goal.returns-then-has_starter_at
returns-then-has_starter_at c =
    let ps = c.args.points.now.items in
    let i = c.loop-i.i in
    let within : i < length ps = omega (arith, c.loop-i-test.true, c.len-i-end.ensures.len) in
    sym (sym c.loop-i.invariant ∙ starter_from ps i within ∙ ap (λ b. b || list_any is_starter (drop (i + 1) ps)) (sym c.has_starter_at.ensures ∙ c.if-has_starter_at.true))

pub loop-i-preserved : goal.loop-i-preserved
loop-i-preserved c =
    let ps = c.args.points.now.items in
    let i = c.loop-i.i in
    let within : i < length ps = omega (arith, c.loop-i-test.true, c.len-i-end.ensures.len) in
    sym (starter_from ps i within ∙ ap (λ b. b || list_any is_starter (drop (i + 1) ps)) (sym c.has_starter_at.ensures ∙ c.if-has_starter_at.false)) ∙ c.loop-i.invariant
