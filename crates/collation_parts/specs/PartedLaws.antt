-- Why the parts of a text may be searched at the same time.
use Rattle.std.specs.Prelude.{◌≡◌, ℕ, ◌<◌, ◌≤◌, List, length}
use Rattle.collation_table.specs.Table.{TableMap}
use Rattle.collation_matches.specs.declared.select.Select.TheVariants.{All}
use Rattle.collation_matches.specs.GoodPrefix.{most_bytes}
use Rattle.collation_matches.specs.PartLaws.{answer_of_parts, AreCutsFrom}
use Rattle.collation_matches.specs.Sought.{Sought, IsCompiledFrom, answer_to}
use Rattle.collation_parts.specs.Parts.{answer_in_parts}

-- What the parts between any places have together is the answer of these parts.
abbrev pub PartsHaveTheirAnswer : TableMap → Type 0
PartsHaveTheirAnswer table =
    (s : Sought) (text bytes : List ℕ) (from : ℕ) (cuts : List ℕ) →
    s.table ≡ table → IsCompiledFrom s text → 0 < length s.pattern.keys → length bytes ≤ most_bytes →
    answer_in_parts s text bytes from cuts ≡ answer_of_parts s text bytes from cuts

-- Where a text is cut at boundaries, that is the answer of the whole.
abbrev pub PartsHaveTheWhole : TableMap → Type 0
PartsHaveTheWhole table =
    (s : Sought) (text bytes : List ℕ) (cuts : List ℕ) →
    s.table ≡ table → IsCompiledFrom s text → 0 < length s.pattern.keys → s.select ≡ All → length bytes ≤ most_bytes →
    AreCutsFrom s.table bytes 0 cuts → answer_in_parts s text bytes 0 cuts ≡ answer_to s text bytes
