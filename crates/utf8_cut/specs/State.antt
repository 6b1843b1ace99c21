-- What a cutter of characters holds, and what it represents.
use Rattle.std.specs.Prelude.{◌≡◌, ℕ, ◌+◌, ◌++◌, IsTrue, true, false, List, [], ◌∷◌, length, Option, None, Some, not, if◌then◌else◌}
use Rattle.utf8_cut.specs.declared.Cutting.{Cutting}
use Rattle.utf8_cut.specs.declared.Cutting.TheVariants.{More, Char, Bad}
use Rattle.utf8_cut.specs.Characters.{is_incomplete_sequence, characters, characters_end, after_characters, is_utf8_prefix}
use Rattle.utf8_cut.specs.Sequences.{SpellsCharacter, IsIllFormed}
use Rattle.utf8_cut.specs.Value.{CutState}

-- The bytes taken are those that were pushed, and given are the characters that the pushes gave, each with its offset.
pub record StandsFor (cut : CutState) (taken : List ℕ) (given : List (ℕ × ℕ)) : Type 0 where
  pub characters_given : given ≡ characters taken
  pub count : cut.count ≡ length taken
  pub start : cut.start ≡ characters_end taken
  pub held : cut.held ≡ (if cut.is_bad then [] else after_characters taken)
  pub bad : cut.is_bad ≡ not (is_utf8_prefix taken)

-- the first list begins the second
abbrev pub IsPrefix : List (ℕ × ℕ) → List (ℕ × ℕ) → Type 0
IsPrefix prefix all = (rest : List (ℕ × ℕ)) × (all ≡ prefix ++ rest)

-- the character that a push gave, with its offset
abbrev pub character_given : Cutting → List (ℕ × ℕ)
character_given More = []
character_given (Char c at) = (c, at) ∷ []
character_given (Bad at) = []

-- the offset of the ill-formed sequence that a push reported
abbrev pub bad_given : Cutting → Option ℕ
bad_given More = None
bad_given (Char c at) = None
bad_given (Bad at) = Some at

-- The value after a push: More holds the byte too, Char lets go of what was held, and Bad keeps the start.
abbrev pub state_after : CutState → ℕ → Cutting → CutState
state_after cut byte More = record { held = cut.held ++ byte ∷ []; start = cut.start; count = cut.count + 1; is_bad = false }
state_after cut byte (Char c at) = record { held = []; start = cut.count + 1; count = cut.count + 1; is_bad = false }
state_after cut byte (Bad at) = record { held = []; start = cut.start; count = cut.count + 1; is_bad = true }

-- a fact of a push that gave a character at an offset
abbrev pub IfChar : Cutting → (ℕ → ℕ → Type 0) → Type 0
IfChar More P = Unit {0}
IfChar (Char c at) P = P c at
IfChar (Bad at) P = Unit {0}

-- a fact of a push that gave nothing yet
abbrev pub OnMore : Cutting → Type 0 → Type 0
OnMore More P = P
OnMore (Char c at) P = Unit {0}
OnMore (Bad at) P = Unit {0}

-- a fact of a push that reported an ill-formed sequence at an offset
abbrev pub IfBad : Cutting → (ℕ → Type 0) → Type 0
IfBad More P = Unit {0}
IfBad (Char c at) P = Unit {0}
IfBad (Bad at) P = P at

-- What a push says of the bytes held, with the byte b: they are an incomplete sequence, the character given, or ill-formed.
abbrev pub IsPushed : CutState → ℕ → Cutting → Type 0
IsPushed cut b More = (cut.is_bad ≡ false) × IsTrue (is_incomplete_sequence (cut.held ++ b ∷ []))
IsPushed cut b (Char c at) = (cut.is_bad ≡ false) × (at ≡ cut.start) × SpellsCharacter (cut.held ++ b ∷ []) c
IsPushed cut b (Bad at) = (at ≡ cut.start) × (cut.is_bad ≡ false → IsIllFormed (cut.held ++ b ∷ []))
