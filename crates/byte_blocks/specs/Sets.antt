-- Which bytes are in a set.
use Rattle.std.specs.Prelude.{◌≡◌, ◌<◌, ◌≤◌, ℕ, ◌/◌, ◌%◌, List, slice_index, bit_and, bit_or}
use Rattle.byte_blocks.specs.declared.sets.ByteSet.{ByteSet}
use Rattle.byte_blocks.specs.declared.sets.TheConstants.{COLUMNS, HIGH_COLUMNS, LEADS, TRAILS}

-- Not 0 where the byte is in a set of ASCII: bit h of the set's number l says so of the byte 16 h + l.
abbrev pub in_set : List ℕ → ℕ → ℕ
in_set set byte = bit_and (slice_index set (byte % 16)) (slice_index COLUMNS (byte / 16))

-- Not 0 where a byte is in a set: of ASCII, or of the bytes from 128 on, of which bit h of the other half's number l says so of the byte
-- 128 + 16 h + l.
abbrev pub is_in : ByteSet → ℕ → ℕ
is_in set byte = bit_or (in_set set.ascii byte) (bit_and (slice_index set.high (byte % 16)) (slice_index HIGH_COLUMNS (byte / 16)))

-- not 0 where a byte begins a character of several bytes
abbrev pub leads : ℕ → ℕ
leads byte = slice_index LEADS (byte / 16)

-- not 0 where a byte stands behind the first one of a character
abbrev pub trails : ℕ → ℕ
trails byte = slice_index TRAILS (byte / 16)

-- none of the bytes from one place on, up to another, is in a set of ASCII
abbrev pub HasNone : List ℕ → List ℕ → ℕ → ℕ → Type 0
HasNone set bytes from to = (i : ℕ) → from ≤ i → i < to → in_set set (slice_index bytes i) ≡ 0
