-- How many places are kept.
use Rattle.std.proofs.Common.{arith}
use Rattle.collation_search.proofs.SavingLemmas.{kept-length}
use Rattle.collation_search.proofs.saving.kept_len.Goals as goal

pub returns : goal.returns
returns c = omega (arith, kept-length c.args.walk.now)
