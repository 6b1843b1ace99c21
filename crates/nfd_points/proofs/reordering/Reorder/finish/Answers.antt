use Rattle.std.proofs.Common.{◌++◌, sym, ap, ◌∙◌}
use Rattle.nfd_points.proofs.ReorderingLemmas.{given-all}
use Rattle.nfd_points.proofs.reordering.Reorder.finish.Goals as goal

pub returns-clause-rest : goal.returns-clause-rest
returns-clause-rest c =
    λ taken given h.
    given-all c.args.self.now taken given h ∙ ap (λ l. given ++ l) (sym (c.release.ensures.given ∙ ap (λ l. l ++ c.args.self.now.held) c.clear.ensures))

pub returns-clause-given : goal.returns-clause-given
returns-clause-given c = c.release.ensures.given ∙ ap (λ l. l ++ c.args.self.now.held) c.clear.ensures
