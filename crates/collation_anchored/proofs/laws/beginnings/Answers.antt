use Rattle.collation_anchored.proofs.BeginningTexts.{least_beginning, equal_beginning, equal_begins}
use Rattle.collation_anchored.proofs.laws.beginnings.Goals as goal

pub returns-clause-least : goal.returns-clause-least
returns-clause-least c = least_beginning

pub returns-clause-equal : goal.returns-clause-equal
returns-clause-equal c = equal_beginning

pub returns-clause-whole : goal.returns-clause-whole
returns-clause-whole c = equal_begins
