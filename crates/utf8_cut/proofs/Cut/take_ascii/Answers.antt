use Rattle.std.proofs.Common.{◌++◌, subst}
use Rattle.std.proofs.lemmas.Str.{IsUtf8-from_ascii, chars-IsAscii}
use Rattle.utf8_cut.specs.Characters.{with_offsets}
use Rattle.utf8_cut.specs.State.{StandsFor}
use Rattle.utf8_cut.proofs.Cut.take_ascii.Goals as goal

pub returns-clause-stands_for : goal.returns-clause-stands_for
returns-clause-stands_for c taken bytes given s long low =
    subst (λ cs. StandsFor c.take_characters.new.self (taken ++ bytes) (given ++ with_offsets c.args.self.now.count cs)) (chars-IsAscii bytes low)
    (c.take_characters.ensures.stands_for taken bytes given s long (IsUtf8-from_ascii bytes low))
