use Rattle.std.proofs.Common.{[], ◌∷◌, ◌∙◌, ap, arith, rules}
use Rattle.std.proofs.lemmas.Grind.{common_steps}
use Rattle.nfd_points.specs.declared.points.Point.{Point}
use Rattle.circular_buffer.specs.Buffer.{Buffer}
use Rattle.nfd_points.specs.Reordering.{is_closed}
use Rattle.collation_elements.proofs.Cutting.{is_closed-append}
use Rattle.collation_elements.proofs.window.Window.push.Goals as goal

pub returns-clause-last : goal.returns-clause-last
unfolding is_closed
returns-clause-last c =
    ap (λ (q : Buffer Point). is_closed q.items) c.push.ensures ∙ is_closed-append c.self.inside.queue.items (c.args.p ∷ []) (omega arith)

pub returns-clause-points : goal.returns-clause-points
returns-clause-points c = search rules depth 4

pub returns-clause-stands : goal.returns-clause-stands
returns-clause-stands c = grind (arith, common_steps)
