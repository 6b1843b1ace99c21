-- The bytes of a character that is not whole.
use Rattle.std.specs.Prelude.{◌≡◌, ℕ, List, [], ◌∷◌, ⊤}
use Rattle.utf8_cut.specs.Sequences.{SpellsCharacter}
use Rattle.collation_skip.specs.declared.begun.Begun.{Begun}
use Rattle.collation_skip.specs.declared.begun.Begun.TheVariants.{Whole, One, Two, Three}
use Rattle.collation_skip.specs.declared.begun.Decoded.{Decoded}
use Rattle.collation_skip.specs.declared.begun.Decoded.TheVariants.{Character, More, IllFormed}

abbrev pub begun_bytes : Begun → List ℕ
begun_bytes Whole = []
begun_bytes (One x) = x ∷ []
begun_bytes (Two x y) = x ∷ y ∷ []
begun_bytes (Three x y z) = x ∷ y ∷ z ∷ []

-- what these bytes are; nothing is said of those that are taken as no beginning of a character
abbrev pub IsDecoded : List ℕ → Decoded → Type 0
IsDecoded bytes (Character c) = SpellsCharacter bytes c
IsDecoded bytes (More begun) = begun_bytes begun ≡ bytes
IsDecoded bytes IllFormed = ⊤
