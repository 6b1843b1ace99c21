use Rattle.std.proofs.Common.{◌∙◌, false, List, [], ◌∷◌, sym, ap, subst}
use Rattle.std.proofs.lemmas.Bool.{false≢true}
use Rattle.nfd_points.specs.declared.points.Point.{Point}
use Rattle.nfd_points.specs.Points.{is_in_order, ordered, points_from}
use Rattle.nfd_points.proofs.OrderingLemmas.{ordered-ordered, is_in_order-ordered}
use Rattle.collation_letters.specs.Letters.{AreApart, IsLetter}
use Rattle.collation_letters.proofs.LetterLemmas.{closed-alone, letter-with}
use Rattle.collation_letters.proofs.PairLemmas.{closed-pair, in_order-pair}
use Rattle.collation_letters.proofs.pairs.find_letter_of_pair.Goals as goal

-- ---- a mapped string

pub letter_of-letter-requires-clause-in_order : goal.letter_of-letter-requires-clause-in_order
letter_of-letter-requires-clause-in_order g c = in_order-pair c.in-Some.one c.in-Some.other c.in-Some.ensures.starters.1

pub letter_of-letter-requires-clause-closed : goal.letter_of-letter-requires-clause-closed
letter_of-letter-requires-clause-closed g c = λ closed.
    let pair = c.in-Some.ensures in
    closed-pair c.units_stay_apart.ensures.pair (g.W.Weights.table c.args.table.now) c.in-Some.one c.in-Some.other pair.mapped pair.longest

pub returns-in-Some-clause-letter : goal.returns-in-Some-clause-letter
returns-in-Some-clause-letter g c =
    let pair = c.in-Some.ensures in
    let ps : List Point = c.in-Some.one ∷ c.in-Some.other ∷ [] in
    let same = ap ordered pair.points ∙ ordered-ordered ps (in_order-pair c.in-Some.one c.in-Some.other pair.starters.1) in
    letter-with (g.W.Weights.table c.args.table.now) c.args.pattern.now (c.args.first ∷ c.args.second ∷ []) ps c.letter_of-letter.result c.are_apart.result (sym same)
    (λ yes. subst (AreApart (g.W.Weights.table c.args.table.now)) (sym pair.points) (c.are_apart.ensures yes)) c.letter_of-letter.ensures.letter

-- ---- a character and a mark

pub letter_of-requires-clause-in_order : goal.letter_of-requires-clause-in_order
letter_of-requires-clause-in_order g c =
    ap is_in_order (c.as_slice-points.ensures.value ∙ c.in-Some-points_with_mark.ensures.points) ∙ is_in_order-ordered (points_from 0 (c.args.first ∷ c.args.second ∷ []))

pub letter_of-requires-clause-closed : goal.letter_of-requires-clause-closed
letter_of-requires-clause-closed g c = λ yes.
    closed-alone c.units_stay_apart.ensures.alone (g.W.Weights.table c.args.table.now) c.as_slice-points.result.now (c.are_closed-is_closed.ensures yes)

pub returns-clause-letter : goal.returns-clause-letter
returns-clause-letter g c =
    let table = g.W.Weights.table c.args.table.now in
    let cs = c.args.first ∷ c.args.second ∷ [] in
    subst (IsLetter table c.args.pattern.now cs) (sym c.without_apart.ensures.same)
    (letter-with table c.args.pattern.now cs c.as_slice-points.result.now c.letter_of.result false (c.as_slice-points.ensures.value ∙ c.in-Some-points_with_mark.ensures.points) (λ yes. absurd (false≢true yes)) c.letter_of.ensures.letter)
