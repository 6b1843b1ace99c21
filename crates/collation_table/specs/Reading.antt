-- What a parsed line represents, and which file it is of.
use Rattle.std.specs.Prelude.{ℕ, ◌+◌, ◌<◌, Bool, ◌&&◌, nat_le, ◌==◌, if◌then◌else◌, List, length, take, drop, slice_index, Option, Some, None}
use Rattle.collation_table.specs.Kinds.{tailor_kinds}
use Rattle.collation_table.specs.declared.faults.TableFault.{TableFault}
use Rattle.collation_table.specs.declared.reader.TableFile.{TableFile}
use Rattle.collation_table.specs.declared.reader.TableFile.TheVariants as files
use Rattle.collation_table.specs.declared.lines.Line.{Line}
use Rattle.collation_table.specs.declared.lines.Line.TheVariants as lines
use Rattle.collation_table.specs.declared.elements.Element.{Element}
use Rattle.collation_table.specs.Spelling.{◌>>=◌, full_stop, closing_bracket, mark_of, weight_of}
use Rattle.collation_table.specs.Spelling as spelled

-- a line, without where it lies in memory
abbrev pub form : Line → spelled.Form
form lines.Empty = spelled.Empty
form lines.Version = spelled.Version
form (lines.Range range) = spelled.Range range
form (lines.Entry string row) = spelled.Entry string.now row.now

-- an entry has a code point and an element
abbrev pub HasParts : Line → Type 0
HasParts lines.Empty = Unit {0}
HasParts lines.Version = Unit {0}
HasParts (lines.Range range) = Unit {0}
HasParts (lines.Entry string row) = (0 < length string.now) × (0 < length row.now)

-- whether the signs of an element stand at their places: its brackets and the marks before its second and third weight
abbrev pub has_element_signs : List ℕ → Bool
has_element_signs bytes =
    nat_le 17 (length bytes)
    && (slice_index bytes 0 == 91 && (slice_index bytes 6 == full_stop && (slice_index bytes 11 == full_stop && slice_index bytes 16 == closing_bracket)))

-- what stands at the places of an element's mark and weights
abbrev pub element_in : List ℕ → Option Element
element_in bytes = do
  is_variable ← mark_of (slice_index bytes 1)
  w1 ← weight_of (take 4 (drop 2 bytes))
  w2 ← weight_of (take 4 (drop 7 bytes))
  w3 ← weight_of (take 4 (drop 12 bytes))
  Some (record { is_variable = is_variable; w1 = w1; w2 = w2; w3 = w3 })

-- the element in brackets that bytes begin with
unfoldable pub element_at_front : List ℕ → Option Element
element_at_front bytes = if has_element_signs bytes then element_in bytes else None

-- how many ranges an earlier file has
abbrev pub earlier_ranges : TableFile → ℕ
earlier_ranges files.Base = 0
earlier_ranges (files.Tailor earlier) = earlier

-- the number by which a kind of fault of a line of the file is reported
abbrev pub reported_kind : TableFile → ℕ → ℕ
reported_kind files.Base kind = kind
reported_kind (files.Tailor earlier) kind = tailor_kinds + kind

-- a fault of a line of the file, as it is reported
abbrev pub reported : TableFile → TableFault → TableFault
reported file fault = record fault { kind = reported_kind file fault.kind }
