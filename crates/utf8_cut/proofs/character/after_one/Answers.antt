use Rattle.std.proofs.Common.{◌∷◌, []}
use Rattle.utf8_cut.proofs.CharacterLemmas.{first_whole, first_ill, first_cut}
use Rattle.utf8_cut.proofs.character.after_one.Goals as goal

pub returns-in-empty : goal.returns-in-empty
returns-in-empty c = first_cut (c.args.first ∷ []) c.args.later.now c.in-empty.len_below c.requires

pub returns-in-WellFormed : goal.returns-in-WellFormed
returns-in-WellFormed c = first_whole (c.args.first ∷ []) c.args.later.now _ c.in-len1-up.len_at_least c.in-WellFormed.ensures

pub returns-in-IllFormed : goal.returns-in-IllFormed
returns-in-IllFormed c = first_ill (c.args.first ∷ []) c.args.later.now c.in-len1-up.len_at_least c.in-IllFormed.ensures
