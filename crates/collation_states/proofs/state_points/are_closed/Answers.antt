-- The last point.
use Rattle.std.proofs.Common.{sym, ap, ◌∙◌, option_copied}
use Rattle.collation_states.proofs.StatePointLemmas.{closed-last, closed-none}
use Rattle.collation_states.proofs.state_points.are_closed.Goals as goal

pub returns-in-Some : goal.returns-in-Some
returns-in-Some c = sym (closed-last c.args.points.now c.in-Some.point.now (sym c.last.ensures.value ∙ ap option_copied c.in-Some.is))

pub returns-in-None : goal.returns-in-None
returns-in-None c = sym (closed-none c.args.points.now (sym c.last.ensures.value ∙ ap option_copied c.in-None.is))
