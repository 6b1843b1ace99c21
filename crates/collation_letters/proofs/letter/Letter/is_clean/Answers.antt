use Rattle.std.proofs.Common.{eqb-true}
use Rattle.collation_letters.proofs.letter.Letter.is_clean.Goals as goal

pub returns-in-Plain : goal.returns-in-Plain
returns-in-Plain c = λ e. (c.in-Plain.is, eqb-true c.args.self.now.symbols.third 0 e)
