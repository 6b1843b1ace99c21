use Rattle.collation_search.proofs.FeedLemmas.{feeds-steps}
use Rattle.collation_search.proofs.StateLemmas.{state_laws}
use Rattle.std.proofs.Common.{[], ◌∷◌}
use Rattle.collation_search.proofs.search.Search.step.Goals as goal

-- what the byte does as a piece
pub returns-clause-fed : goal.returns-clause-fed
returns-clause-fed g c =
    feeds-steps (state_laws c.decided_units_stay.ensures.begin c.laws_of_reordering.ensures.last c.laws_of_reordering.ensures.others) c.laws_of_decompositions.ensures.short c.decided_units_stay.ensures.early
    c.args.self.now c.step_on.new.self (c.args.byte ∷ []) c.step_on.result c.step_on.new.found.items c.step_on.ensures.takes
