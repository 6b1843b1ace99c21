-- Matches and minimal matches (UTS #10, section 11).
use Rattle.std.specs.Prelude.{ℕ, Bool, ◌==◌, ◌&&◌, not, nat_le, nat_lt, List, map, flat_map, filter, length, bytes_eq}
use Rattle.std.specs.List.{list_any}
use Rattle.collation_table.specs.Table.{TableMap}
use Rattle.collation_elements.specs.declared.settings.Variable.{Variable}
use Rattle.collation_elements.specs.declared.settings.Strength.{Strength}
use Rattle.collation_elements.specs.Boundaries.{boundaries}
use Rattle.collation_elements.specs.Parts.{part_between}
use Rattle.collation_pattern.specs.SortKey.{text_sort_key}

-- all pairs (start, end) of these offsets, no start after its end
abbrev pub ranges_among : List ℕ → List (ℕ × ℕ)
ranges_among offsets = flat_map (λ start. map (λ end. (start, end)) (filter (nat_le start) offsets)) offsets

-- the part of a text between two byte offsets
abbrev pub part : List ℕ → ℕ × ℕ → List ℕ
part text range = part_between text range.0 range.1

-- the ranges between boundaries whose text, taken by itself, has this sort key
abbrev pub ranges_with_sort_key : TableMap → Strength → Variable → List ℕ → List ℕ → List (ℕ × ℕ)
ranges_with_sort_key table strength variable sort_key text =
    filter (λ range. bytes_eq (text_sort_key table strength variable (part text range)) sort_key) (ranges_among (boundaries table text))

-- the second range lies within the first one and is another
abbrev pub is_within : ℕ × ℕ → ℕ × ℕ → Bool
is_within outer inner =
    nat_le outer.0 inner.0 && nat_le inner.1 outer.1 && not (inner.0 == outer.0 && inner.1 == outer.1)

-- the ranges that have no other one within them
abbrev pub minimal : List (ℕ × ℕ) → List (ℕ × ℕ)
minimal ranges = filter (λ range. not (list_any (is_within range) ranges)) ranges

-- the minimal matches of a pattern in a text, by rising start
abbrev pub matches : TableMap → Strength → Variable → List ℕ → List ℕ → List (ℕ × ℕ)
matches table strength variable pattern text =
    let sort_key = text_sort_key table strength variable pattern in minimal (ranges_with_sort_key table strength variable sort_key text)

-- Those that end before the end of the text. They are handed out where a text counts as ended, as at a fault. Of a text that
-- goes on they need not be matches: a longer contraction across the old end may take a boundary away.
abbrev pub settled : TableMap → Strength → Variable → List ℕ → List ℕ → List (ℕ × ℕ)
settled table strength variable pattern text =
    filter (λ range. nat_lt range.1 (length text)) (matches table strength variable pattern text)
