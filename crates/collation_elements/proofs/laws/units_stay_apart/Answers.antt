use Rattle.collation_elements.proofs.Apart.{units-all_alone, units-before_starter, units-last_point}
use Rattle.collation_elements.proofs.Pairs.{units-pair}
use Rattle.collation_elements.proofs.laws.units_stay_apart.Goals as goal

pub returns-clause-alone : goal.returns-clause-alone
returns-clause-alone c = units-all_alone

pub returns-clause-before : goal.returns-clause-before
returns-clause-before c = units-before_starter

pub returns-clause-pair : goal.returns-clause-pair
returns-clause-pair c = units-pair

pub returns-clause-last : goal.returns-clause-last
returns-clause-last c = units-last_point
