-- A collation element table as a finite map from lists of code points to lists of collation elements, with the ranges
-- of implicit weights (UTS #10, sections 3 and 10.1.3).
use Rattle.std.specs.Prelude.{◌≡◌, ℕ, zero, suc, ◌+◌, ◌-◌, ◌/◌, ◌%◌, ◌≤◌, min, max, Bool, false, ◌&&◌, ◌||◌, ◌==◌, if◌then◌else◌, List, [], ◌∷◌, ◌++◌, length, take, map, find, Option, Some, None, is_some, bytes_eq}
use Rattle.std.specs.Int.{is_in_range}
use Rattle.unicode_normalization.specs.Forms.{nfd}
use Rattle.unicode_normalization.specs.Lookups.{canonical_combining_class}
use Rattle.collation_table.specs.declared.limits.TheConstants.{MOST_STRING_POINTS, MOST_ROW_ELEMENTS}
use Rattle.collation_table.specs.declared.elements.Element.{Element}
use Rattle.collation_table.specs.declared.ranges.ImplicitRange.{ImplicitRange}

-- the rows, each a mapped string and its elements, and the ranges, both in the order of the file
pub record TableMap : Type 0 where
  pub rows : List (List ℕ × List Element)
  pub ranges : List ImplicitRange

-- the elements of the first row of the string
abbrev pub row_with : List ℕ → List (List ℕ × List Element) → Option (List Element)
row_with string [] = None
row_with string (row ∷ rows) = if bytes_eq string row.0 then Some row.1 else row_with string rows

-- the elements to which the table maps a list of code points
abbrev pub row_of : TableMap → List ℕ → Option (List Element)
row_of T string = row_with string T.rows

abbrev pub is_mapped : TableMap → List ℕ → Bool
is_mapped T string = is_some (row_of T string)

-- the greatest number up to n at which the prefix of so many points is mapped, and 0 if none is
abbrev pub longest_prefix_within : TableMap → List ℕ → ℕ → ℕ
longest_prefix_within T points zero = 0
longest_prefix_within T points (suc n) =
    let shorter = longest_prefix_within T points n in if is_mapped T (take (suc n) points) then suc n else shorter

-- UTS #10, S2.1: how long the longest initial part is that the table has
abbrev pub longest_prefix : TableMap → List ℕ → ℕ
longest_prefix T points = longest_prefix_within T points (length points)

-- no mapped string of two code points or more begins with cp
abbrev pub BeginsNoLongerString : TableMap → ℕ → Type 0
BeginsNoLongerString T cp = (next : ℕ) (rest : List ℕ) → is_mapped T (cp ∷ next ∷ rest) ≡ false

-- cp stands in no mapped string after the first place
abbrev pub ContinuesNoString : TableMap → ℕ → Type 0
ContinuesNoString T cp = (first : ℕ) (prefix rest : List ℕ) → is_mapped T (first ∷ (prefix ++ cp ∷ rest)) ≡ false

-- no mapped string that is longer than `string` begins with it
abbrev pub GoesOnInNoString : TableMap → List ℕ → Type 0
GoesOnInNoString T string = (next : ℕ) (rest : List ℕ) → is_mapped T (string ++ next ∷ rest) ≡ false

-- ---- implicit weights (UTS #10, section 10.1.3)

abbrev pub is_in : ℕ → ImplicitRange → Bool
is_in cp range = is_in_range range.first range.last cp

-- the ideographs of the block CJK Unified Ideographs, and those among the compatibility ideographs
abbrev pub is_core_ideograph : ℕ → Bool
is_core_ideograph cp = is_in_range 0x4E00 0x9FFF cp || is_in_range 0xFA0E 0xFA0F cp || (cp == 0xFA11) || is_in_range 0xFA13 0xFA14 cp || (cp == 0xFA1F) || (cp == 0xFA21) || is_in_range 0xFA23 0xFA24 cp || is_in_range 0xFA27 0xFA29 cp

-- the ideographs of the extensions
abbrev pub is_other_ideograph : ℕ → Bool
is_other_ideograph cp = is_in_range 0x3400 0x4DBF cp || is_in_range 0x20000 0x2A6DF cp || is_in_range 0x2A700 0x2EE5F cp || is_in_range 0x30000 0x323AF cp

-- the base to which the upper bits of a code point in no range are added
abbrev pub implicit_base : ℕ → ℕ
implicit_base cp = if is_core_ideograph cp then 0xFB40 else if is_other_ideograph cp then 0xFB80 else 0xFBC0

-- the smallest code point of the ranges with this base, or cp if that is smaller
abbrev pub first_with_base : ℕ → ℕ → List ImplicitRange → ℕ
first_with_base base cp [] = cp
first_with_base base cp (r ∷ rs) = min (if r.base == base then r.first else cp) (first_with_base base cp rs)

-- AAAA and BBBB of a code point, given the range that holds it; BBBB has its highest bit set
abbrev pub implicit_weights_in : List ImplicitRange → ℕ → Option ImplicitRange → ℕ × ℕ
implicit_weights_in ranges cp (Some range) = (range.base, 0x8000 + (cp - first_with_base range.base cp ranges))
implicit_weights_in ranges cp None = (implicit_base cp + cp / 0x8000, 0x8000 + cp % 0x8000)

abbrev pub implicit_weights_of : List ImplicitRange → ℕ → ℕ × ℕ
implicit_weights_of ranges cp = implicit_weights_in ranges cp (find (is_in cp) ranges)

abbrev pub implicit_weights : TableMap → ℕ → ℕ × ℕ
implicit_weights T cp = implicit_weights_of T.ranges cp

-- the two elements [.AAAA.0020.0002][.BBBB.0000.0000]
abbrev pub pair_of_weights : ℕ × ℕ → List Element
pair_of_weights weights =
    record { is_variable = false; w1 = weights.0; w2 = 0x20; w3 = 2 } ∷ record { is_variable = false; w1 = weights.1; w2 = 0; w3 = 0 } ∷ []

abbrev pub implicit_pair : TableMap → ℕ → List Element
implicit_pair T cp = pair_of_weights (implicit_weights T cp)

-- ---- sizes

abbrev pub greatest : List ℕ → ℕ
greatest [] = 0
greatest (n ∷ ns) = max n (greatest ns)

-- how many code points the longest mapped string has
abbrev pub longest_mapped : TableMap → ℕ
longest_mapped T = greatest (map (λ row. length row.0) T.rows)

-- how many elements the largest row has; an implicit pair counts as a row of 2 elements
abbrev pub most_elements : TableMap → ℕ
most_elements T = max 2 (greatest (map (λ row. length row.1) T.rows))

pub record HasSizes (T : TableMap) : Type 0 where
  pub some_mapped : 1 ≤ longest_mapped T
  pub string : longest_mapped T ≤ MOST_STRING_POINTS
  pub pair : 2 ≤ most_elements T
  pub row : most_elements T ≤ MOST_ROW_ELEMENTS

-- ---- starters

abbrev pub is_scalar_value : ℕ → Bool
is_scalar_value cp = is_in_range 0 0xD7FF cp || is_in_range 0xE000 0x10FFFF cp

-- The canonical combining class of a code point that stands in a mapped string. One that a text in NFD never has, as a
-- surrogate or a code point that is not its own decomposition, counts as a starter.
abbrev pub class_of : ℕ → ℕ
class_of cp = if is_scalar_value cp && bytes_eq (nfd (cp ∷ [])) (cp ∷ []) then canonical_combining_class cp else 0
