use Rattle.std.proofs.Common.{◌∷◌, []}
use Rattle.utf8_cut.proofs.CharacterLemmas.{first_whole, first_cut, first_of_four}
use Rattle.utf8_cut.proofs.character.after_three.Goals as goal

pub returns-in-empty : goal.returns-in-empty
returns-in-empty c = first_cut (c.args.first ∷ c.args.second ∷ c.args.third ∷ []) c.args.later.now c.in-empty.len_below c.requires

pub returns-in-WellFormed : goal.returns-in-WellFormed
returns-in-WellFormed c = first_whole (c.args.first ∷ c.args.second ∷ c.args.third ∷ []) c.args.later.now _ c.in-len1-up.len_at_least c.in-WellFormed.ensures

pub returns-in_default : goal.returns-in_default
returns-in_default c = first_of_four _ _ _ c.args.later.now _ c.in-len1-up.len_at_least c.of_four.ensures c.in_default.not-WellFormed
