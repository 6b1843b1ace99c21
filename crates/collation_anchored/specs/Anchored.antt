-- Matches that are the whole of a text, or begin or end where it does (UTS #10, section 11). They need not be minimal: ignorable characters at
-- the ends of the text belong to them.
use Rattle.std.specs.Prelude.{ℕ, Bool, ◌==◌, ◌&&◌, List, [], ◌∷◌, map, filter, take, length, Option, None, Some, slice_get}
use Rattle.std.specs.List.{list_any}
use Rattle.std.specs.Option.{option_map}
use Rattle.collation_table.specs.Table.{TableMap}
use Rattle.collation_elements.specs.declared.settings.Variable.{Variable}
use Rattle.collation_elements.specs.declared.settings.Strength.{Strength}
use Rattle.collation_elements.specs.declared.keys.Key.{Key}
use Rattle.collation_pattern.specs.Border.{same_keys}
use Rattle.collation_pattern.specs.SortKey.{text_sort_key}
use Rattle.collation_matches.specs.Matches.{ranges_with_sort_key}

-- all matches of a pattern in a text, minimal or not, by rising start, and those of one start by rising end
abbrev pub all_matches : TableMap → Strength → Variable → List ℕ → List ℕ → List (ℕ × ℕ)
all_matches table strength variable pattern text =
    ranges_with_sort_key table strength variable (text_sort_key table strength variable pattern) text

-- the range is the whole of a text of this length
abbrev pub is_whole : ℕ → ℕ × ℕ → Bool
is_whole len range = range.0 == 0 && range.1 == len

-- the whole text is a match
abbrev pub is_equal : TableMap → Strength → Variable → List ℕ → List ℕ → Bool
is_equal table strength variable pattern text = list_any (is_whole (length text)) (all_matches table strength variable pattern text)

-- the ends of the matches that begin at 0, rising
abbrev pub ends_from_the_beginning : TableMap → Strength → Variable → List ℕ → List ℕ → List ℕ
ends_from_the_beginning table strength variable pattern text =
    map (λ range. range.1) (filter (λ range. range.0 == 0) (all_matches table strength variable pattern text))

-- the least end of a match that begins at 0
abbrev pub begins : TableMap → Strength → Variable → List ℕ → List ℕ → Option ℕ
begins table strength variable pattern text = slice_get (ends_from_the_beginning table strength variable pattern text) 0

-- the last of some ranges
abbrev pub last_of : List (ℕ × ℕ) → Option (ℕ × ℕ)
last_of [] = None
last_of (range ∷ []) = Some range
last_of (range ∷ other ∷ ranges) = last_of (other ∷ ranges)

-- the greatest start of a match that ends where the text ends
abbrev pub ends : TableMap → Strength → Variable → List ℕ → List ℕ → Option ℕ
ends table strength variable pattern text =
    option_map (λ range. range.0) (last_of (filter (λ range. range.1 == length text) (all_matches table strength variable pattern text)))

-- these keys are the first of the pattern's, or all of them
abbrev pub is_begun : List Key → List Key → Bool
is_begun pattern ks = same_keys (take (length ks) pattern) ks
