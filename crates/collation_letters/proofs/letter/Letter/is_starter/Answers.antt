use Rattle.nfd_points.specs.Points.{points_from}
use Rattle.collation_letters.proofs.ApartLemmas.{begins_before}
use Rattle.collation_letters.proofs.LetterApart.{taken-known, taken-no_mark}
use Rattle.collation_letters.proofs.letter.Letter.is_starter.Goals as goal

pub returns-in-Plain : goal.returns-in-Plain
returns-in-Plain c = λ yes table pattern cs h.
    let role = c.args.self.now.role in
    begins_before (points_from 0 cs) ((h.known (taken-known role c.in-Plain.is)).starter (taken-no_mark role c.in-Plain.is))
