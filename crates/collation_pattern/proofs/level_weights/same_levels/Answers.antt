use Rattle.std.proofs.Common.{◌≡◌, sym, subst, rules}
use Rattle.collation_elements.specs.declared.settings.Strength.{Strength}
use Rattle.collation_pattern.specs.Levels.{levels}
use Rattle.collation_pattern.proofs.level_weights.same_levels.Goals as goal

pub returns-in-One : goal.returns-in-One
returns-in-One c = (
  λ _. subst (λ (s : Strength). levels s c.args.left.now ≡ levels s c.args.right.now) (sym c.in-One.is) (c.same_level.ensures.0 (search rules)),
  λ _. search rules,
)
