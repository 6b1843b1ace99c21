-- What contracts see of a cutter of characters.
use Rattle.std.specs.Prelude.{◌≡◌, ℕ, ◌+◌, ◌<◌, Bool, true, false, List, [], length, IsTrue}
use Rattle.utf8_cut.specs.Characters.{is_incomplete_or_empty}

pub record CutState : Type 0 where
  -- the bytes of a character that is not whole yet
  pub held : List ℕ
  -- the offset of the character that is held, or of the ill-formed sequence that was met, else the count
  pub start : ℕ
  -- how many bytes were taken
  pub count : ℕ
  -- an ill-formed sequence was met
  pub is_bad : Bool

-- after so many bytes, where no character is held and no ill-formed sequence was met
abbrev pub between_characters : ℕ → CutState
between_characters count = record { held = []; start = count; count = count; is_bad = false }

-- what is true of every cutter
abbrev pub IsSoundWhen : Bool → CutState → Type 0
IsSoundWhen false cut = IsTrue (is_incomplete_or_empty cut.held) × (cut.start + length cut.held ≡ cut.count)
IsSoundWhen true cut = (cut.held ≡ []) × (cut.start < cut.count)

abbrev pub IsSoundCut : CutState → Type 0
IsSoundCut cut = IsSoundWhen cut.is_bad cut
