use Rattle.std.proofs.Common.{refl}
use Rattle.collation_search.proofs.search.Search.park.Goals as goal

pub returns-clause-stands : goal.returns-clause-stands
returns-clause-stands g c = λ u handed h. h

pub returns-clause-words : goal.returns-clause-words
returns-clause-words g c = refl
