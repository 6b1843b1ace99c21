use Rattle.std.proofs.Common.{refl, ap, ◌∙◌}
use Rattle.collation_walk.proofs.WalkSteps.{walks-new}
use Rattle.collation_walk.proofs.walk.Walk.begin_again.Goals as goal

pub returns-clause-walks : goal.returns-clause-walks
returns-clause-walks c =
    let cleared = c.clear.ensures in
    walks-new c.args.pattern.now.keys _ refl refl refl (ap (λ b. b.items) cleared) (ap (λ b. b.capacity) cleared ∙ c.requires) refl
