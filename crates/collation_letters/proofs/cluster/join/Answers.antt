use Rattle.std.proofs.Common.{◌∙◌}
use Rattle.std.proofs.lemmas.Option.{IfSome_then}
use Rattle.collation_letters.proofs.JoiningLemmas.{points-outer}
use Rattle.collation_letters.proofs.cluster.join.Goals as goal

pub returns-else-letter-clause-points : goal.returns-else-letter-clause-points
returns-else-letter-clause-points c =
    IfSome_then c.letter_of_both.result c.letter_of_both.ensures
    (λ both is depth table pattern ps q free h hm.
    points-outer depth table pattern ps q c.args.letter c.args.mark both (free c.if-letter.false) (is.closed ∙ c.if-letter.false) is.stays is.class is.points is.most is.other is.joins h hm)
