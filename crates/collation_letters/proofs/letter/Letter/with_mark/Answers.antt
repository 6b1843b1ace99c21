use Rattle.std.proofs.Common.{[], ◌∷◌, ◌++◌}
use Rattle.collation_letters.proofs.JoiningLemmas.{is_so, letter-both, points-both}
use Rattle.collation_letters.proofs.letter.Letter.with_mark.Goals as goal

pub returns-clause-letter : goal.returns-clause-letter
returns-clause-letter c = λ table pattern cs ch ha hm.
    let is = c.in_ok-both.ensures in
    c.settled.ensures.letter table pattern (cs ++ ch ∷ [])
    (letter-both c.laws_of_points.ensures.parts c.laws_of_points.ensures.shifted table pattern cs ch c.args.self c.args.mark _ (is_so c.args.self.is_closed c.if-not-self.false) (is_so c.args.mark.is_closed c.if-not-mark.false) is.stays
    is.apart is.class is.points is.most is.other is.joins ha hm)

pub returns-clause-points : goal.returns-clause-points
returns-clause-points c = λ depth table pattern ps q ha hm.
    let is = c.in_ok-both.ensures in
    c.settled.ensures.points depth table pattern (ps ++ q ∷ [])
    (points-both depth table pattern ps q c.args.self c.args.mark _ (is_so c.args.self.is_closed c.if-not-self.false) (is_so c.args.mark.is_closed c.if-not-mark.false) is.stays
    is.class is.points is.most is.other is.joins ha hm)

pub returns-clause-begins : goal.returns-clause-begins
returns-clause-begins c = c.settled.ensures.begins c.in_ok-both.ensures.joins.begins

pub returns-clause-mark : goal.returns-clause-mark
returns-clause-mark c = c.in_ok-both.ensures.joins.mark_joins
