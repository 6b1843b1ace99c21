use Rattle.utf8_cut.proofs.CharactersLemmas.{characters_after, end_after, rest_after, fault_after}
use Rattle.utf8_cut.proofs.laws.text_may_stand_before.Goals as goal

pub returns-clause-characters : goal.returns-clause-characters
returns-clause-characters c from text bytes u = characters_after from text bytes u

pub returns-clause-end : goal.returns-clause-end
returns-clause-end c text bytes u = end_after text bytes u

pub returns-clause-rest : goal.returns-clause-rest
returns-clause-rest c text bytes u = rest_after text bytes u

pub returns-clause-fault : goal.returns-clause-fault
returns-clause-fault c text bytes u = fault_after text bytes u
