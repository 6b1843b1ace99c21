-- What the bytes of one sequence are, decided by its last byte (the Unicode Standard, table 3-7).
use Rattle.std.specs.Prelude.{◌≡◌, ℕ, ◌<◌, ◌≤◌, false, List, ◌++◌, length, take, IsTrue, Option, None, Some}
use Rattle.std.specs.Char.{IsScalar, len_utf8, encode_utf8}
use Rattle.std.specs.Str.{StartsWithNoChar}
use Rattle.utf8_cut.specs.declared.sequence.Form.{Form}
use Rattle.utf8_cut.specs.declared.sequence.Form.TheVariants.{WellFormed, Incomplete, IllFormed}
use Rattle.utf8_cut.specs.Characters.{is_incomplete_sequence, is_incomplete_or_empty}

-- the bytes are the character c
abbrev pub SpellsCharacter : List ℕ → ℕ → Type 0
SpellsCharacter bytes c = IsScalar c × (bytes ≡ encode_utf8 c)

-- no character begins the bytes, and the bytes begin none
abbrev pub IsIllFormed : List ℕ → Type 0
IsIllFormed bytes = StartsWithNoChar bytes × (is_incomplete_or_empty bytes ≡ false)

abbrev pub IsForm : List ℕ → Form → Type 0
IsForm bytes (WellFormed c) = SpellsCharacter bytes c
IsForm bytes Incomplete = IsTrue (is_incomplete_sequence bytes)
IsForm bytes IllFormed = IsIllFormed bytes

-- the bytes, one at least, with further bytes, one at least, are a character
abbrev pub BeginsCharacter : List ℕ → Type 0
BeginsCharacter bytes = (0 < length bytes) × (more : List ℕ) × (c : ℕ) × (0 < length more) × SpellsCharacter (bytes ++ more) c

-- the character that begins the bytes and is whole there, with its length in bytes, or none
abbrev pub IsFirstCharacter : List ℕ → Option (ℕ × ℕ) → Type 0
IsFirstCharacter bytes None = StartsWithNoChar bytes
IsFirstCharacter bytes (Some sized) = (sized.1 ≡ len_utf8 sized.0) × ((len_utf8 sized.0 ≤ length bytes) × SpellsCharacter (take (len_utf8 sized.0) bytes) sized.0)
