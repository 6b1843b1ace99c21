-- What letters that are kept say.
use Rattle.std.specs.Prelude.{◌≤◌, ◌∷◌, [], All}
use Rattle.collation_table.specs.Table.{TableMap}
use Rattle.collation_pattern.specs.Compiled.{Compiled}
use Rattle.collation_letters.specs.declared.places.Kept.{Kept}
use Rattle.collation_letters.specs.declared.places.Places.{Places}
use Rattle.collation_letters.specs.declared.pair_places.KeptPair.{KeptPair}
use Rattle.collation_letters.specs.declared.pair_places.PairPlaces.{PairPlaces}
use Rattle.collation_letters.specs.declared.store.Letters.{Letters}
use Rattle.collation_letters.specs.Letters.{IsLetter}

abbrev pub IsKept : TableMap → Compiled → Kept → Type 0
IsKept table pattern kept = IsLetter table pattern (kept.code_point ∷ []) kept.letter

abbrev pub AreKept : TableMap → Compiled → Places → Type 0
AreKept table pattern places = All (IsKept table pattern) places.kept.items

abbrev pub IsPairKept : TableMap → Compiled → KeptPair → Type 0
IsPairKept table pattern kept = IsLetter table pattern (kept.first ∷ kept.second ∷ []) kept.letter

abbrev pub ArePairsKept : TableMap → Compiled → PairPlaces → Type 0
ArePairsKept table pattern pairs = All (IsPairKept table pattern) pairs.kept.items

-- the first number is no code point
abbrev pub IsOfNoPair : KeptPair → Type 0
IsOfNoPair kept = 0x11_0000 ≤ kept.first

-- each is the letter of its character, or of its two
abbrev pub AreLetters : TableMap → Compiled → Letters → Type 0
AreLetters table pattern letters = AreKept table pattern letters.places × ArePairsKept table pattern letters.pairs
