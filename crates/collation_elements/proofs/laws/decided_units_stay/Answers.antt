use Rattle.collation_elements.proofs.DecidedUnits.{window-cut, window-left, units-begin, decided-stay, early-made_good}
use Rattle.collation_elements.proofs.laws.decided_units_stay.Goals as goal

pub returns-clause-cut : goal.returns-clause-cut
returns-clause-cut c = window-cut

pub returns-clause-left : goal.returns-clause-left
returns-clause-left c = window-left

pub returns-clause-begin : goal.returns-clause-begin
returns-clause-begin c = units-begin

pub returns-clause-stay : goal.returns-clause-stay
returns-clause-stay c = decided-stay

pub returns-clause-early : goal.returns-clause-early
returns-clause-early c = early-made_good
