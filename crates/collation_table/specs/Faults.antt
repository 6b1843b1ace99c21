-- What is wrong with a table file and with a second file that tailors it, and the table that they spell where nothing is. A line is
-- judged by itself and by the lines before it; the first line at fault is reported, with the smallest kind of fault that it has. A
-- file alone is one with an empty tailor.
use Rattle.std.specs.Prelude.{◌≡◌, ℕ, ◌+◌, ◌-◌, Bool, ◌||◌, nat_lt, nat_le, if◌then◌else◌, List, [], ◌∷◌, ◌++◌, ◌⊎◌, length, take, map, Option, Some, None, option_map}
use Rattle.std.specs.Option.{option_or}
use Rattle.std.specs.List.{list_any, cons_option, filter_map, range_with_len, slice_index_or}
use Rattle.std.specs.Str.Lines.{lines}
use Rattle.collation_table.specs.declared.limits.TheConstants.{MOST_STRING_POINTS, MOST_ROW_ELEMENTS, MOST_ENTRY_LINES, MOST_RANGE_LINES}
use Rattle.collation_table.specs.Kinds.{malformed_line_kind, beyond_unicode_kind, mapped_twice_kind, too_long_kind, wf1_kind, wf3_kind, pair_rule_kind, bad_range_kind, too_many_lines_kind, allocation_refused_kind, tailor_kinds}
use Rattle.collation_table.specs.declared.faults.TableFault.{TableFault}
use Rattle.collation_table.specs.declared.elements.Element.{Element}
use Rattle.collation_table.specs.declared.ranges.ImplicitRange.{ImplicitRange}
use Rattle.collation_table.specs.Table.{TableMap, row_of, is_mapped, longest_mapped, most_elements}
use Rattle.collation_table.specs.Overlay.{overlay}
use Rattle.collation_table.specs.WellFormed.{breaks_wf1, breaks_wf3, breaks_pair_rule, breaks_ranges, map_fault}
use Rattle.collation_table.specs.Spelling.{Form, Empty, Version, Range, Entry, line_form}

-- What a file spells

-- what each line says, or nothing for a malformed one
abbrev pub forms_of : List ℕ → List (Option Form)
forms_of bytes = map line_form (lines bytes)

-- the row of an entry line
abbrev pub row_in : Option Form → Option (List ℕ × List Element)
row_in (Some (Entry string row)) = Some (string, row)
row_in _ = None

-- the range of a range line
abbrev pub range_in : Option Form → Option ImplicitRange
range_in (Some (Range range)) = Some range
range_in _ = None

-- the rows and the ranges of lines, in their order
abbrev pub map_of : List (Option Form) → TableMap
map_of forms = record { rows = filter_map row_in forms; ranges = filter_map range_in forms }

-- the rows of the lines of a file, and its ranges after those of an earlier file
abbrev pub map_after : List ImplicitRange → List (Option Form) → TableMap
map_after earlier forms = record { rows = filter_map row_in forms; ranges = earlier ++ filter_map range_in forms }

-- the table with what one more line says
abbrev pub with_line : TableMap → Option Form → TableMap
with_line T form = record { rows = T.rows ++ cons_option (row_in form) []; ranges = T.ranges ++ cons_option (range_in form) [] }

-- the overlay of what the lines of a file and those of its tailor say
abbrev pub tailored_map : List ℕ → List ℕ → TableMap
tailored_map base tailor = overlay (map_of (forms_of base)) (map_of (forms_of tailor))

-- The table is the finite map of the entry lines, where those of the tailor come before those of the base, and has the ranges of the
-- range lines, the base's first. Its sizes are those of the rows that the lines give, so no other row counts, and none that the
-- tailor replaces.
pub record SpellsTailored (base tailor : List ℕ) (T : TableMap) : Type 0 where
  pub rows : (string : List ℕ) → row_of T string ≡ row_of (tailored_map base tailor) string
  pub ranges : T.ranges ≡ (tailored_map base tailor).ranges
  pub longest : longest_mapped T ≡ longest_mapped (tailored_map base tailor)
  pub largest : most_elements T ≡ most_elements (tailored_map base tailor)

-- the table is what the lines of one file spell
abbrev pub SpellsTable : List ℕ → TableMap → Type 0
SpellsTable bytes T = SpellsTailored bytes [] T

-- What is wrong with a line

-- the kind of the first test that holds
abbrev pub first_kind : List (Bool × ℕ) → Option ℕ
first_kind [] = None
first_kind (test ∷ tests) = if test.0 then Some test.1 else first_kind tests

abbrev pub is_beyond_unicode : ℕ → Bool
is_beyond_unicode cp = nat_lt 0x10FFFF cp

-- the smallest kind of fault of a range line, after lines that spell the table T, whose first ranges, so many, are of an earlier file
abbrev pub range_kind : ℕ → TableMap → ImplicitRange → Option ℕ
range_kind earlier T range =
    first_kind (
    (list_any is_beyond_unicode (range.first ∷ range.last ∷ []), beyond_unicode_kind)
    ∷ (breaks_ranges T.ranges range, bad_range_kind)
    ∷ (nat_le MOST_RANGE_LINES (length T.ranges - earlier), too_many_lines_kind)
    ∷ [])

-- the smallest kind of fault of an entry line, after lines that spell the table T
abbrev pub entry_kind : TableMap → List ℕ → List Element → Option ℕ
entry_kind T string row =
    first_kind (
    (list_any is_beyond_unicode string, beyond_unicode_kind)
    ∷ (is_mapped T string, mapped_twice_kind)
    ∷ (nat_lt MOST_STRING_POINTS (length string) || nat_lt MOST_ROW_ELEMENTS (length row), too_long_kind)
    ∷ (breaks_wf1 row, wf1_kind)
    ∷ (breaks_wf3 row, wf3_kind)
    ∷ (breaks_pair_rule row, pair_rule_kind)
    ∷ (nat_le MOST_ENTRY_LINES (length T.rows), too_many_lines_kind)
    ∷ [])

-- the smallest kind of fault of a line, after lines that spell the table T, whose first ranges, so many, are of an earlier file
abbrev pub line_kind : ℕ → TableMap → Option Form → Option ℕ
line_kind earlier T None = Some malformed_line_kind
line_kind earlier T (Some Empty) = None
line_kind earlier T (Some Version) = None
line_kind earlier T (Some (Range range)) = range_kind earlier T range
line_kind earlier T (Some (Entry string row)) = entry_kind T string row

-- What is wrong with a file

abbrev pub fault_at_line : ℕ → Option ℕ → Option TableFault
fault_at_line line kind = option_map (λ k. record { line = line; kind = k }) kind

-- the fault of the line at a place, counted from 0, where an earlier file has these ranges; its number is counted from 1
abbrev pub fault_of_line : List ImplicitRange → List (Option Form) → ℕ → Option TableFault
fault_of_line earlier forms n =
    fault_at_line (n + 1) (line_kind (length earlier) (map_after earlier (take n forms)) (slice_index_or forms n None))

-- what f gives for the first of the values for which it gives something
abbrev pub first_some : {A B : Type 0} → (A → Option B) → List A → Option B
first_some f [] = None
first_some f (x ∷ xs) = option_or (f x) (first_some f xs)

-- the fault of the first line at fault of a file, where an earlier file has these ranges
abbrev pub first_line_fault : List ImplicitRange → List (Option Form) → Option TableFault
first_line_fault earlier forms = first_some (fault_of_line earlier forms) (range_with_len 0 (length forms))

-- a fault of a line of a tailor, as it is reported
abbrev pub in_tailor : TableFault → TableFault
in_tailor fault = record fault { kind = tailor_kinds + fault.kind }

-- the fault of the first line at fault, the base's lines before the tailor's, or else that of the whole table
abbrev pub fault_of_forms : List (Option Form) → List (Option Form) → Option TableFault
fault_of_forms base tailor =
    option_or (first_line_fault [] base)
    (option_or (option_map in_tailor (first_line_fault (map_of base).ranges tailor))
    (fault_at_line 0 (map_fault (overlay (map_of base) (map_of tailor)))))

-- the fault of a table file and a tailor
abbrev pub tailored_fault : List ℕ → List ℕ → Option TableFault
tailored_fault base tailor = fault_of_forms (forms_of base) (forms_of tailor)

-- the fault of a table file alone
abbrev pub table_fault : List ℕ → Option TableFault
table_fault bytes = tailored_fault bytes []

-- what a file spells by itself, and its fault, said without a tailor
pub record FileAloneLaws : Type 0 where
  pub map : (bytes : List ℕ) → tailored_map bytes [] ≡ map_of (forms_of bytes)
  pub fault : (bytes : List ℕ) → table_fault bytes ≡ option_or (first_line_fault [] (forms_of bytes)) (fault_at_line 0 (map_fault (map_of (forms_of bytes))))

-- refused memory
abbrev pub allocation_refused : TableFault
allocation_refused = record { line = 0; kind = allocation_refused_kind }

-- a fault that is reported: the one that there is, or that of refused memory
abbrev pub IsFaultOrAllocationRefused : Option TableFault → TableFault → Type 0
IsFaultOrAllocationRefused there fault = (there ≡ Some fault) ⊎ (fault ≡ allocation_refused)
