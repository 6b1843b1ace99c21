use Rattle.collation_letters.proofs.SymbolLemmas.{last-none, last-is, some-split, listed-is, foreign-border}
use Rattle.collation_letters.proofs.laws.laws_of_symbols.Goals as goal

pub returns : goal.returns
returns c = record { none = last-none; one = last-is; turn = some-split; listed = listed-is; foreign = foreign-border c.laws_of_borders.ensures.last }
