use Rattle.collation_pattern.proofs.BorderLemmas.{border-goes_on, border-grows, border-last}
use Rattle.collation_pattern.proofs.laws.laws_of_borders.Goals as goal

pub returns : goal.returns
returns c = record { last = border-last; grow = border-grows; go_on = border-goes_on }
