use Rattle.std.proofs.Common.{rules}
use Rattle.collation_pattern.proofs.pattern.Pattern.may_have_from.Goals as goal

pub returns : goal.returns
returns c = search rules depth 4
