-- When a collation element table is well formed (UTS #10, section 5, WF1 to WF5), with one condition on pairs of elements
-- that this library adds, so that the primary weights of a sort key can be read in one way only, and the conditions on the
-- ranges of implicit weights. Each `breaks_` is a test that is true where the condition is broken.
use Rattle.std.specs.Prelude.{◌≡◌, ℕ, ◌-◌, ◌<◌, ◌≤◌, Bool, true, false, not, ◌&&◌, ◌||◌, ◌==◌, nat_le, nat_lt, if◌then◌else◌, List, [], ◌∷◌, length, take, map, filter, flat_map, All, Contains, slice_get, slice_index, Option, Some, None, IsTrue}
use Rattle.std.specs.Int.{is_in_range}
use Rattle.std.specs.List.{list_any, AllByRecursion}
use Rattle.collation_table.specs.declared.limits.TheConstants.{MOST_STRING_POINTS, MOST_ROW_ELEMENTS}
use Rattle.collation_table.specs.declared.elements.Element.{Element}
use Rattle.collation_table.specs.declared.ranges.ImplicitRange.{ImplicitRange}
use Rattle.collation_table.specs.Kinds.{wf2_kind, wf4_kind, wf5_kind, no_entry_kind}
use Rattle.collation_table.specs.Table.{TableMap, row_with, row_of, is_mapped, greatest, first_with_base, class_of}

-- ---- kinds of elements

-- the form of the second element of an implicit pair, [.BBBB.0000.0000]
abbrev pub is_follower : Element → Bool
is_follower e = not e.is_variable && nat_le 0x8000 e.w1 && (e.w2 == 0) && (e.w3 == 0)

-- a primary weight that takes one weight more, that of the follower after it
abbrev pub is_lead : Element → Bool
is_lead e = not e.is_variable && is_in_range 0xFB00 0xFBFF e.w1 && not (is_follower e)

-- a pair counts as its lead, so a follower is of none of these kinds
abbrev pub is_primary : Element → Bool
is_primary e = nat_lt 0 e.w1 && not (is_follower e)

abbrev pub is_secondary : Element → Bool
is_secondary e = (e.w1 == 0) && nat_lt 0 e.w2

abbrev pub is_tertiary : Element → Bool
is_tertiary e = (e.w1 == 0) && (e.w2 == 0) && nat_lt 0 e.w3

-- ---- conditions on a row

-- a weight that is not zero at a level, and zero at the next; an element of the form of a follower is let off
abbrev pub skips_level : Element → Bool
skips_level e = not (is_follower e) && ((nat_lt 0 e.w1 && (e.w2 == 0)) || (nat_lt 0 e.w2 && (e.w3 == 0)))

abbrev pub breaks_wf1 : List Element → Bool
breaks_wf1 row = list_any skips_level row

abbrev pub breaks_wf3 : List Element → Bool
breaks_wf3 row = list_any (λ e. e.is_variable && (e.w1 == 0)) row

-- a variable element that would be read as a lead or above it
abbrev pub is_high_variable : Element → Bool
is_high_variable e = e.is_variable && nat_le 0xFB00 e.w1

-- whether the rest of a row breaks the rule of pairs, given whether the element before it is a lead
abbrev pub breaks_pairs : Bool → List Element → Bool
breaks_pairs after_lead [] = after_lead
breaks_pairs true (e ∷ es) = not (is_follower e) || breaks_pairs false es
breaks_pairs false (e ∷ es) = is_follower e || is_high_variable e || breaks_pairs (is_lead e) es

-- each lead has its follower after it, no follower stands elsewhere, and no variable weight is as high as a lead's
abbrev pub breaks_pair_rule : List Element → Bool
breaks_pair_rule row = breaks_pairs false row

-- ---- conditions on the ranges

abbrev pub overlaps : ImplicitRange → ImplicitRange → Bool
overlaps r s = nat_le r.first s.last && nat_le s.first r.last

-- the ranges with this base
abbrev pub with_base : ℕ → List ImplicitRange → List ImplicitRange
with_base base ranges = filter (λ r. r.base == base) ranges

-- more code points from the first to the last of the ranges with the base of r than the second weight of a pair can count
abbrev pub spreads_too_far : List ImplicitRange → ImplicitRange → Bool
spreads_too_far earlier r =
    nat_lt 0x7FFF (greatest (map (λ s. s.last) (r ∷ with_base r.base earlier)) - first_with_base r.base r.first earlier)

-- whether a range, after the earlier ones, has its ends in the wrong order or a base that is none, shares a code point with
-- an earlier one, or spreads too far
abbrev pub breaks_ranges : List ImplicitRange → ImplicitRange → Bool
breaks_ranges earlier r =
    nat_lt r.last r.first || not (is_in_range 0xFB00 0xFB3F r.base) || list_any (overlaps r) earlier || spreads_too_far earlier r

-- ---- conditions on the whole table

abbrev pub table_elements : TableMap → List Element
table_elements T = flat_map (λ row. row.1) T.rows

-- A secondary element whose second weight is not above that of each primary one and 0020, or a tertiary element whose third weight
-- is not above that of each primary and secondary one and 0002. 0020 and 0002 are the weights of implicit pairs, which any text may
-- have.
abbrev pub breaks_wf2 : TableMap → Bool
breaks_wf2 T =
    let es = table_elements T in (
    list_any (λ s. is_secondary s && (nat_le s.w2 0x20 || list_any (λ p. is_primary p && nat_le s.w2 p.w2) es)) es
    || list_any (λ t. is_tertiary t && (nat_le t.w3 2 || list_any (λ p. (is_primary p || is_secondary p) && nat_le t.w3 p.w3) es)) es
    )

-- a primary element, not variable, whose first weight is at least that of a variable one and at most that of another or the same one
abbrev pub breaks_wf4 : TableMap → Bool
breaks_wf4 T =
    let es = table_elements T in
    list_any (λ p. is_primary p && not p.is_variable && list_any (λ v. v.is_variable && nat_le v.w1 p.w1) es && list_any (λ v. v.is_variable && nat_le p.w1 v.w1) es) es

-- the mapped string ends in a non-starter, and without it, it is a list of two code points or more that is not mapped
abbrev pub lacks_prefix : TableMap → List ℕ → Bool
lacks_prefix T string =
    let prefix = length string - 1 in
    nat_lt 1 prefix && nat_lt 0 (class_of (slice_index string prefix)) && not (is_mapped T (take prefix string))

abbrev pub breaks_wf5 : TableMap → Bool
breaks_wf5 T = list_any (λ row. lacks_prefix T row.0) T.rows

abbrev pub is_empty_list : {X : Type 0} → List X → Bool
is_empty_list [] = true
is_empty_list (x ∷ xs) = false

-- what a table whose lines are each right is refused for: no row, WF2, WF4 or WF5, the first that holds, as the kind of its fault
abbrev pub map_fault : TableMap → Option ℕ
map_fault T =
    if is_empty_list T.rows then Some no_entry_kind else if breaks_wf2 T then Some wf2_kind else if breaks_wf4 T then Some wf4_kind else if breaks_wf5 T then Some wf5_kind else None

-- ---- well-formedness

-- a mapped string and its row, by themselves
pub record IsRowSound (string : List ℕ) (row : List Element) : Type 0 where
  pub some_points : 1 ≤ length string
  pub few_points : length string ≤ MOST_STRING_POINTS
  pub points : All (λ cp. cp < 0x110000) string
  pub some_elements : 1 ≤ length row
  pub few_elements : length row ≤ MOST_ROW_ELEMENTS
  pub wf1 : breaks_wf1 row ≡ false
  pub wf3 : breaks_wf3 row ≡ false
  pub pairs : breaks_pair_rule row ≡ false

-- no range breaks the conditions on ranges together with those before it
abbrev pub AreRangesSound : List ImplicitRange → Type 0
AreRangesSound ranges = (k : ℕ) (r : ImplicitRange) → slice_get ranges k ≡ Some r → breaks_ranges (take k ranges) r ≡ false

-- no row has the string of one before it
abbrev pub AreStringsDistinct : List (List ℕ × List Element) → Type 0
AreStringsDistinct rows = (k : ℕ) (row : List ℕ × List Element) → slice_get rows k ≡ Some row → row_with row.0 (take k rows) ≡ None

-- what the lines of a file show one by one
pub record AreLinesSound (T : TableMap) : Type 0 where
  pub rows : AllByRecursion (λ row. IsRowSound row.0 row.1) T.rows
  pub distinct : AreStringsDistinct T.rows
  pub ranges : AreRangesSound T.ranges

-- e is an element of the row of some mapped string
abbrev pub HasElement : TableMap → Element → Type 0
HasElement T e = (string : List ℕ) × (row : List Element) × (row_of T string ≡ Some row) × Contains row e

-- WF2: secondary elements weigh more at the second level than primary ones, and tertiary ones at the third than both
pub record IsWf2 (T : TableMap) : Type 0 where
  pub secondary : (s p : Element) → HasElement T s → HasElement T p → IsTrue (is_secondary s) → IsTrue (is_primary p) → p.w2 < s.w2
  pub secondary_implicit : (s : Element) → HasElement T s → IsTrue (is_secondary s) → 0x20 < s.w2
  pub tertiary : (t p : Element) → HasElement T t → HasElement T p → IsTrue (is_tertiary t) → IsTrue (is_primary p || is_secondary p) → p.w3 < t.w3
  pub tertiary_implicit : (t : Element) → HasElement T t → IsTrue (is_tertiary t) → 2 < t.w3

-- WF4: no primary element that is not variable has a first weight from that of a variable one on and up to that of another or the
-- same one
abbrev pub IsWf4 : TableMap → Type 0
IsWf4 T =
    (p v w : Element) → HasElement T p → HasElement T v → HasElement T w → IsTrue (is_primary p) → p.is_variable ≡ false → v.is_variable ≡ true → w.is_variable ≡ true → v.w1 ≤ p.w1 → w.w1 < p.w1

-- WF5: with a mapped string of three code points or more that ends in a non-starter, its prefix without that is mapped too
abbrev pub IsWf5 : TableMap → Type 0
IsWf5 T =
    (string : List ℕ) → IsTrue (is_mapped T string) → 2 < length string → 0 < class_of (slice_index string (length string - 1)) → IsTrue (is_mapped T (take (length string - 1) string))

-- The rows are a finite map, no string standing twice, so that each row is that of its string; they and the ranges meet the conditions.
pub record IsWellFormed (T : TableMap) : Type 0 where
  pub distinct : AreStringsDistinct T.rows
  pub rows : (string : List ℕ) (row : List Element) → row_of T string ≡ Some row → IsRowSound string row
  pub ranges : AreRangesSound T.ranges
  pub wf2 : IsWf2 T
  pub wf4 : IsWf4 T
  pub wf5 : IsWf5 T
