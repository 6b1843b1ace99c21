use Rattle.std.proofs.Common.{refl, ap, ◌∙◌}
use Rattle.collation_walk.proofs.WalkSteps.{walks-new}
use Rattle.collation_walk.proofs.walk.Walk.new.Goals as goal

pub returns-clause-walks : goal.returns-clause-walks
returns-clause-walks c =
    let made = c.in_ok-with_capacity.ensures in
    walks-new c.args.pattern.now.keys _ refl refl refl (ap (λ b. b.items) made) (ap (λ b. b.capacity) made ∙ c.len.ensures.keys) refl
