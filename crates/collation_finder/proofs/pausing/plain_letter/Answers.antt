use Rattle.std.proofs.Common.{rules}
use Rattle.std.proofs.lemmas.Bool.{not-false}
use Rattle.collation_finder.proofs.PointLetters.{alone_from}
use Rattle.collation_finder.proofs.pausing.plain_letter.Goals as goal

pub returns-in-Plain-clause-plain : goal.returns-in-Plain-clause-plain
returns-in-Plain-clause-plain g c = record {
  alone = alone_from c.args.point c.if-point-ne0.false (not-false c.args.point.first c.if-not-point.false) c.requires.sound;
  plain = c.in-Plain.is;
  letter = search rules;
}
