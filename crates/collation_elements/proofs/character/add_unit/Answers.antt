use Rattle.std.proofs.Common.{◌<◌, ◌++◌, length, subst, ◌∙◌, ap}
use Rattle.collation_elements.specs.declared.character.TheConstants.{MOST_CHARACTER_ITEMS}
use Rattle.collation_elements.specs.declared.weigher.Weigher.{Weigher}
use Rattle.collation_elements.specs.Weighing.{value_items}
use Rattle.collation_elements.proofs.character.add_unit.Goals as goal

-- of a unit that is not short nothing was taken
pub returns-in-None-clause-items : goal.returns-in-None-clause-items
returns-in-None-clause-items c = λ h. c.add_long.ensures.items h ∙ ap (λ (w : Weigher). c.args.gathered.now.items ++ value_items w c.args.unit.now) c.in-None.ensures.none

pub returns-in-None-clause-full : goal.returns-in-None-clause-full
returns-in-None-clause-full c = λ h. subst (λ (w : Weigher). MOST_CHARACTER_ITEMS < length (c.args.gathered.now.items ++ value_items w c.args.unit.now)) c.in-None.ensures.none (c.add_long.ensures.full h)
