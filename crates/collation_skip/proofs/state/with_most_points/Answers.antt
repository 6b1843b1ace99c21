use Rattle.std.proofs.Common.{refl, arith}
use Rattle.collation_skip.proofs.SpentLemmas.{held-more}
use Rattle.collation_skip.proofs.state.with_most_points.Goals as goal

pub returns-clause-letter : goal.returns-clause-letter
returns-clause-letter c = λ depth table pattern ps h. held-more table pattern ps depth c.args.letter _ refl refl refl (omega (arith, c.max.ensures)) refl h
