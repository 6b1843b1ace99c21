-- The texts that are no patterns.
use Rattle.std.specs.Prelude.{◌≡◌, ℕ, nat_lt, ◌==◌, List, length, is_some, Option, Some, None, if◌then◌else◌}
use Rattle.std.specs.Str.{chars}
use Rattle.nfd_points.specs.PointFaults.{point_fault}
use Rattle.collation_table.specs.Table.{TableMap}
use Rattle.collation_elements.specs.declared.settings.Variable.{Variable}
use Rattle.collation_elements.specs.declared.settings.Strength.{Strength}
use Rattle.collation_pattern.specs.Levels.{text_keys}

-- the kind of the first cause that holds: 21 for more than 65,536 bytes; 23 for a run of more than 30 non-starters or a
-- decomposition of more than 4 code points; 22 for no key
abbrev pub pattern_fault : TableMap → Strength → Variable → List ℕ → Option ℕ
pattern_fault table strength variable text =
    let keyless = if length (text_keys table strength variable text) == 0 then Some 22 else None in
    let unread = if is_some (point_fault (chars text)) then Some 23 else keyless in
    if nat_lt 65536 (length text) then Some 21 else unread

-- that is the fault of the text, or it has none
abbrev pub IsFault : TableMap → Strength → Variable → List ℕ → Option ℕ → Type 0
IsFault table strength variable text kind = pattern_fault table strength variable text ≡ kind
