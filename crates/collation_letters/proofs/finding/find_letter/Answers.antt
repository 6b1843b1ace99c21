use Rattle.std.proofs.Common.{◌≡◌, ◌≤◌, ◌∙◌, List, ◌∷◌, [], length, sym, ap, subst, arith}
use Rattle.std.proofs.lemmas.List.Elements.{All-same}
use Rattle.nfd_points.specs.Reordering.{IsSoundPoint}
use Rattle.nfd_points.specs.Points.{is_in_order, points_of}
use Rattle.nfd_points.specs.declared.limits.TheConstants.{MOST_WAITING}
use Rattle.nfd_points.specs.declared.points.Point.{Point}
use Rattle.collation_letters.specs.Letters.{AreApart}
use Rattle.collation_letters.proofs.ApartLemmas.{ordered_one}
use Rattle.collation_letters.proofs.ApartLemmas.{from_one}
use Rattle.collation_letters.proofs.LetterLemmas.{closed-alone, letter-with, few-points, some-points}
use Rattle.collation_letters.proofs.finding.find_letter.Goals as goal

pub returns-clause-letter : goal.returns-clause-letter
returns-clause-letter g c =
    let table = g.W.Weights.table c.args.table.now in
    let ps = c.as_slice-points.result.now in
    let value : ps ≡ points_of 0 c.args.c = c.as_slice-points.ensures.value ∙ c.points_of_character-points.ensures.value in
    letter-with table c.args.pattern.now (c.args.c ∷ []) ps c.letter_of-letter.result c.begin_apart.result (value ∙ sym (ordered_one 0 c.args.c))
    (λ yes. subst (AreApart table) (value ∙ sym (from_one 0 c.args.c)) (c.begin_apart.ensures yes)) c.letter_of-letter.ensures.letter

pub letter_of-letter-requires-clause-room : goal.letter_of-letter-requires-clause-room
letter_of-letter-requires-clause-room g c = omega (arith, c.as_slice-points.ensures.fits, c.requires.room)

pub letter_of-letter-requires-clause-sound : goal.letter_of-letter-requires-clause-sound
letter_of-letter-requires-clause-sound g c = All-same IsSoundPoint _ _ c.as_slice-points.ensures.value c.points_of_character-points.ensures.sound

pub letter_of-letter-requires-clause-some : goal.letter_of-letter-requires-clause-some
letter_of-letter-requires-clause-some g c =
    subst (λ (qs : List Point). 1 ≤ length qs) (sym (c.as_slice-points.ensures.value ∙ c.points_of_character-points.ensures.value)) (some-points c.laws_of_decompositions.ensures.short 0 c.args.c)

pub letter_of-letter-requires-clause-few : goal.letter_of-letter-requires-clause-few
letter_of-letter-requires-clause-few g c =
    subst (λ (qs : List Point). length qs ≤ MOST_WAITING) (sym (c.as_slice-points.ensures.value ∙ c.points_of_character-points.ensures.value)) (few-points c.laws_of_decompositions.ensures.short 0 c.args.c)

pub letter_of-letter-requires-clause-in_order : goal.letter_of-letter-requires-clause-in_order
letter_of-letter-requires-clause-in_order g c =
    ap is_in_order (c.as_slice-points.ensures.value ∙ c.points_of_character-points.ensures.value) ∙ c.laws_of_decompositions.ensures.in_order 0 c.args.c

pub letter_of-letter-requires-clause-closed : goal.letter_of-letter-requires-clause-closed
letter_of-letter-requires-clause-closed g c = λ yes.
    closed-alone c.units_stay_apart.ensures.alone (g.W.Weights.table c.args.table.now) c.as_slice-points.result.now (c.are_closed-is_closed.ensures yes)
