-- How far bytes are a text that can be searched: the longest prefix of whole characters (the Unicode Standard, D92) before
-- the first fault, which is an ill-formed or incomplete sequence, the end of 2^62 bytes, a decomposition of more than 4 code
-- points or a run of more than 30 non-starters (UAX #15, Stream-Safe Text).
use Rattle.std.specs.Prelude.{ℕ, ◌^◌, ◌&&◌, Bool, nat_lt, nat_le, List, length, take, Option, Some, None, is_none, if◌then◌else◌}
use Rattle.std.specs.Str.{chars}
use Rattle.utf8_cut.specs.Characters.{characters_end, is_utf8_prefix}
use Rattle.nfd_points.specs.PointFaults.{point_fault}
use Rattle.collation_matches.specs.declared.faults.TextFault.{TextFault}

-- how many bytes a text may have
abbrev pub most_bytes : ℕ
most_bytes = 2 ^ 62

-- the bytes that may be looked at
abbrev pub seen : List ℕ → List ℕ
seen bytes = take most_bytes bytes

-- the whole characters at the start of some bytes
abbrev pub whole : List ℕ → List ℕ
whole bytes = take (characters_end bytes) bytes

-- what ends the whole characters of the bytes that may be looked at: 34 where there are more bytes and these could go on,
-- and 31 where a sequence is ill-formed or incomplete
abbrev pub byte_fault : List ℕ → Option TextFault
byte_fault bytes =
    let too_long : TextFault = record { kind = 34; offset = characters_end (seen bytes) } in
    let ill_formed : TextFault = record { kind = 31; offset = characters_end (seen bytes) } in
    if nat_lt most_bytes (length bytes) && is_utf8_prefix (seen bytes) then Some too_long
    else if nat_lt (characters_end (seen bytes)) (length (seen bytes)) then Some ill_formed
    else None

-- the first fault of a code point, or else of the bytes
abbrev pub first_of : Option (ℕ × ℕ) → Option TextFault → Option TextFault
first_of (Some at) later = Some (record { kind = at.1; offset = at.0 })
first_of None later = later

-- the first fault of the bytes
abbrev pub fault : List ℕ → Option TextFault
fault bytes = first_of (point_fault (chars (whole (seen bytes)))) (byte_fault bytes)

abbrev pub prefix_at : List ℕ → Option TextFault → List ℕ
prefix_at bytes None = bytes
prefix_at bytes (Some at) = take at.offset bytes

-- what stands before the first fault
abbrev pub good_prefix : List ℕ → List ℕ
good_prefix bytes = prefix_at bytes (fault bytes)

-- Bytes that a longer text may begin with: at most 2^62, without a fault but for an incomplete sequence at their end.
abbrev pub is_good_so_far : List ℕ → Bool
is_good_so_far bytes = nat_le (length bytes) most_bytes && is_utf8_prefix bytes && is_none (point_fault (chars (whole bytes)))
