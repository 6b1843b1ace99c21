use Rattle.std.proofs.Common.{◌∙◌, sym, ap}
use Rattle.collation_states.specs.State.{words}
use Rattle.collation_search.specs.Search.{sought}
use Rattle.collation_search.specs.State.{sizes_of}
use Rattle.collation_search.specs.StateAfter.{reported_after, state_after}
use Rattle.collation_search.proofs.StateLemmas.{state_laws}
use Rattle.collation_search.proofs.UnderWay.{under_way-known}
use Rattle.collation_search.proofs.search.Search.agrees_with.Goals as goal

pub returns-clause-handed : goal.returns-clause-handed
returns-clause-handed g c = λ u mine theirs same a b.
    let laws = state_laws c.decided_units_stay.ensures.begin c.laws_of_reordering.ensures.last c.laws_of_reordering.ensures.others in
    let one = under_way-known laws c.args.self.now (sought c.args.self.now) u mine a in
    let other = under_way-known laws c.args.other.now (sought c.args.other.now) u theirs b in
    one.handed_is ∙ sym (other.handed_is ∙ ap (λ s. reported_after s u) same)

pub returns-clause-words : goal.returns-clause-words
returns-clause-words g c = λ u mine theirs same a b.
    let laws = state_laws c.decided_units_stay.ensures.begin c.laws_of_reordering.ensures.last c.laws_of_reordering.ensures.others in
    let one = under_way-known laws c.args.self.now (sought c.args.self.now) u mine a in
    let other = under_way-known laws c.args.other.now (sought c.args.other.now) u theirs b in
    one.words_are ∙ sym (other.words_are ∙ ap (λ s. words (sizes_of s) (state_after s u)) same)
