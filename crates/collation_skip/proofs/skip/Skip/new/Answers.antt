use Rattle.std.proofs.lemmas.Option.{none-some}
use Rattle.collation_skip.proofs.skip.Skip.new.Goals as goal

pub returns : goal.returns
returns c = λ table pattern. (c.new.ensures table pattern, c.new-2.ensures table pattern, λ classes is. absurd (none-some classes is))
