use Rattle.std.proofs.Common.{◌-◌, length}
use Rattle.collation_letters.specs.Store.{AreLetters}
use Rattle.collation_finder.proofs.letter_run.read_letter.Given as goal

abbrev pub decreases-marks : goal.decreases-marks
decreases-marks g l = length l.piece - l.len

abbrev pub invariant-marks : goal.invariant-marks
invariant-marks g l = AreLetters (g.W.Weights.table l.query.table.now) l.query.pattern.now l.letters
