-- Text of characters of one and of two bytes that a search passes in blocks of bytes: the sets of bytes, and what they say of characters.
use Rattle.std.specs.Prelude.{◌≡◌, ℕ, suc, ◌+◌, ◌-◌, ◌*◌, ◌<◌, ◌≤◌, List, [], ◌∷◌, length, take, drop, slice_index}
use Rattle.std.specs.Char.{len_utf8}
use Rattle.utf8_cut.specs.Sequences.{SpellsCharacter}
use Rattle.byte_blocks.specs.Sets.{is_in, trails}
use Rattle.collation_table.specs.Table.{TableMap}
use Rattle.collation_pattern.specs.Compiled.{Compiled}
use Rattle.collation_letters.specs.Apart.{IsNext}
use Rattle.collation_letters.specs.Letters.{IsLetter}
use Rattle.collation_skip.specs.Blocks.{IsClassifiedBy, LeavesNone, most}
use Rattle.collation_letters.specs.declared.letter.Letter.{Letter}
use Rattle.collation_skip.specs.declared.passed.Passed.{Passed}
use Rattle.collation_skip.specs.declared.two_byte_sets.TwoByteClasses.{TwoByteClasses}

-- ---- sets

-- What the sets say of a character, by its last byte: that it may be passed and that no unit reaches into it, if it does not halt, and
-- what its last key is not.
abbrev pub IsSetRight : TableMap → Compiled → TwoByteClasses → ℕ → ℕ → Type 0
IsSetRight table pattern classes last c =
    IsClassifiedBy table pattern classes.place c (is_in classes.sets.halt last ≡ 0) (is_in classes.sets.key last ≡ 0) (is_in classes.sets.later last ≡ 0) ⊥ (is_in classes.sets.halt last ≡ 0)

-- the number of a character of two bytes
abbrev pub character_of : ℕ → ℕ → ℕ
character_of lead trail = (lead - 192) * 64 + (trail - 128)

-- two bytes are a character of which the sets say what is so
pub record AreRightOf (table : TableMap) (pattern : Compiled) (classes : TwoByteClasses) (lead trail : ℕ) : Type 0 where
  pub spelled : SpellsCharacter (lead ∷ trail ∷ []) (character_of lead trail)
  pub right : IsSetRight table pattern classes trail (character_of lead trail)

-- the sets say what is so of each character of one byte, and of each one of two bytes that do not halt, of which there is no longer one
pub record AreSetsRight (table : TableMap) (pattern : Compiled) (classes : TwoByteClasses) : Type 0 where
  pub place : classes.place < length pattern.keys
  pub one : (c : ℕ) → c < 128 → is_in classes.sets.halt c ≡ 0 → IsSetRight table pattern classes c c
  pub two : (lead trail : ℕ) → 192 ≤ lead → lead < 256 → 128 ≤ trail → trail < 192 → is_in classes.sets.halt lead ≡ 0 → is_in classes.sets.halt trail ≡ 0
      → AreRightOf table pattern classes lead trail

-- ---- where the text may be left

-- What is passed by ends, within the first `len` bytes of a piece, with a character (`last`, with the letter `own`) behind which no key
-- waits, for a place of the pattern, and the one that follows is there, to which no unit reaches.
pub record IsEnding (table : TableMap) (pattern : Compiled) (place : ℕ) (piece : List ℕ) (len : ℕ) (it : Passed) : Type 0 where
  pub last : ℕ
  pub own : Letter
  pub begins : trails (slice_index piece it.start) ≡ 0
  pub inside : it.start < len
  pub whole : 128 ≤ slice_index piece it.start → suc it.start < len
  pub within : it.end ≤ len
  pub end : it.end ≡ it.start + len_utf8 last
  pub character : SpellsCharacter (take (len_utf8 last) (drop it.start piece)) last
  pub letter : IsLetter table pattern (last ∷ []) own
  pub clean : LeavesNone (most pattern.keys place) own
  pub room : it.end + len_utf8 it.next ≤ length piece
  pub next : SpellsCharacter (take (len_utf8 it.next) (drop it.end piece)) it.next
  pub following : IsLetter table pattern (it.next ∷ []) it.letter
  pub apart : (at : ℕ) → IsNext table at (last ∷ []) it.next
