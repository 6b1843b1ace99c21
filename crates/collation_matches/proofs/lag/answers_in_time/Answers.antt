-- What is answered are matches of a text that the whole characters begin.
use Rattle.collation_matches.proofs.LagTexts.{TextLaws}
use Rattle.collation_matches.proofs.LagLaw.{answers-found_in_time}
use Rattle.collation_matches.proofs.lag.answers_in_time.Goals as goal

pub returns : goal.returns
returns g c =
    let laws : TextLaws = record {
      text = c.whole_characters_are_the_longest_text.ensures.text;
      longest = c.whole_characters_are_the_longest_text.ensures.longest;
      within = c.whole_characters_are_the_longest_text.ensures.within;
      faults = c.laws_of_faults.ensures.following;
    } in
    answers-found_in_time laws (g.W.Weights.table c.args.table.now) c.matches_in_time.ensures
