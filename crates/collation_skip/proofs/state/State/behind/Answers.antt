use Rattle.collation_letters.specs.Letters.{ordered_from}
use Rattle.collation_letters.proofs.ClusterLemmas.{letter-of}
use Rattle.collation_skip.proofs.SpentLemmas.{letter-held}
use Rattle.collation_skip.proofs.state.State.behind.Goals as goal

pub returns-clause-letter : goal.returns-clause-letter
returns-clause-letter c = λ table cs h.
    c.spent.ensures.letter table (ordered_from 0 cs) (letter-held table c.args.pattern.now (ordered_from 0 cs) c.args.depth c.args.letter (letter-of table c.args.pattern.now cs c.args.letter h))
