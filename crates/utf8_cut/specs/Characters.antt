-- The characters of bytes as UTF-8 (the Unicode Standard, section 3.9, definition D92 and table 3-7).
-- A list may hold any numbers: one above 255 is in no well-formed sequence, and so is ill-formed where it stands.
use Rattle.std.specs.Prelude.{ℕ, ◌+◌, Bool, true, false, ◌&&◌, List, [], ◌∷◌, length, take, drop, ◌==◌, if◌then◌else◌, Option, None, Some}
use Rattle.std.specs.Int.{is_in_range}
use Rattle.std.specs.List.{prefix_len}
use Rattle.std.specs.Char.{is_ascii, len_utf8, encode_utf8}
use Rattle.std.specs.Str.{chars, is_utf8}
use Rattle.std.specs.Str.Lossy.{utf8_valid_len, second_byte_min, second_byte_max}

-- where the whole characters end: the length of the longest prefix that is UTF-8
abbrev pub characters_end : List ℕ → ℕ
characters_end bytes = utf8_valid_len bytes

-- what follows the whole characters
abbrev pub after_characters : List ℕ → List ℕ
after_characters bytes = drop (characters_end bytes) bytes

-- the characters cs in a row, each with the offset of its first byte, the first one at the offset from
abbrev pub with_offsets : ℕ → List ℕ → List (ℕ × ℕ)
with_offsets from [] = []
with_offsets from (c ∷ cs) = (c, from) ∷ with_offsets (from + len_utf8 c) cs

-- the whole characters, each with the offset of its first byte, where the bytes themselves stand at the offset from
abbrev pub characters_from : ℕ → List ℕ → List (ℕ × ℕ)
characters_from from bytes = with_offsets from (chars (take (characters_end bytes) bytes))

abbrev pub characters : List ℕ → List (ℕ × ℕ)
characters bytes = characters_from 0 bytes

-- one to three bytes that begin a character and lack some of it (table 3-7: the first byte, the range of the second, the later ones)
abbrev pub is_incomplete_sequence : List ℕ → Bool
is_incomplete_sequence [] = false
is_incomplete_sequence (x ∷ []) = is_in_range 0xC2 0xF4 x
is_incomplete_sequence (x ∷ y ∷ []) = is_in_range 0xE0 0xF4 x && is_in_range (second_byte_min x) (second_byte_max x) y
is_incomplete_sequence (x ∷ y ∷ z ∷ []) = is_in_range 0xF0 0xF4 x && (is_in_range (second_byte_min x) (second_byte_max x) y && is_in_range 0x80 0xBF z)
is_incomplete_sequence _ = false

-- no bytes, or an incomplete sequence
abbrev pub is_incomplete_or_empty : List ℕ → Bool
is_incomplete_or_empty [] = true
is_incomplete_or_empty (x ∷ bytes) = is_incomplete_sequence (x ∷ bytes)

-- whole characters, and after them nothing or an incomplete sequence; how many bytes there are, and which characters, is not
-- asked
abbrev pub is_utf8_prefix : List ℕ → Bool
is_utf8_prefix bytes = is_incomplete_or_empty (after_characters bytes)

-- the offset of the first ill-formed sequence
abbrev pub ill_formed_at : List ℕ → Option ℕ
ill_formed_at bytes = if is_utf8_prefix bytes then None else Some (characters_end bytes)

-- the offset of the first sequence that is ill-formed, or incomplete at the end of the bytes
abbrev pub first_fault : List ℕ → Option ℕ
first_fault bytes = if characters_end bytes == length bytes then None else Some (characters_end bytes)

-- how many bytes come before the first one that is no ASCII, 80 hex or more, or all of them
abbrev pub ascii_prefix_len : List ℕ → ℕ
ascii_prefix_len bytes = prefix_len is_ascii bytes

-- `unfolding computing` under a statement on bytes that are written out lets it compute.
unfoldable pub computing : Unit {0}
unfolding utf8_valid_len is_utf8 chars encode_utf8
computing = tt
