-- A whole text is a match exactly where the sort keys are equal.
use Rattle.std.proofs.Common.{◌≡◌, ◌∙◌, ℕ, zero, suc, ◌-◌, ◌≤◌, true, ◌==◌, ◌||◌, List, [], ◌∷◌, length, take, drop, bytes_eq, nat_le, filter, map, refl, sym, ap, arith, inl, inr}
use Rattle.std.specs.List.{list_any}
use Rattle.std.proofs.lemmas.Bool.{and_parts, and_from, eqb-true, eq-eqb, le-leb, or_left, or_right}
use Rattle.std.proofs.lemmas.List.{take_all}
use Rattle.std.proofs.lemmas.Slice.Eq.{bytes_eq-Decides}
use Rattle.std.proofs.Math.Nat.{le-suc_iff}
use Rattle.std.specs.Str.{chars}
use Rattle.nfd_points.specs.Points.{points}
use Rattle.collation_table.specs.Table.{TableMap}
use Rattle.collation_elements.specs.declared.settings.Variable.{Variable}
use Rattle.collation_elements.specs.declared.settings.Strength.{Strength}
use Rattle.collation_elements.specs.Boundaries.{boundaries, offsets_to, is_boundary, cluster_starts}
use Rattle.collation_pattern.specs.SortKey.{text_sort_key}
use Rattle.collation_matches.specs.Matches.{ranges_among, part}
use Rattle.collation_matches.proofs.BridgeLists.{In, in_left, in_right, in_filter, filter_in, map_in, flat_map_in, any_in, in_any}
use Rattle.collation_anchored.specs.Anchored.{all_matches, is_whole, is_equal}
use Rattle.collation_anchored.specs.Laws.{EqualTextsHaveEqualSortKeys, EqualToItself, EqualBothWays, EqualInTurn}

-- ---- the ends of a text are boundaries

in_offsets : (n p : ℕ) → p ≤ n → In (offsets_to n) p
in_offsets zero p h = inl (omega arith)
in_offsets (suc n) p h = elim ((le-suc_iff {m = p} {n = n}).0 h) [
  | inl lower ↦ in_left (offsets_to n) (suc n ∷ []) p (in_offsets n p lower)
  | inr last ↦ in_right (offsets_to n) (suc n ∷ []) p (inl (sym last))
]

pub start_is_boundary : (table : TableMap) (text : List ℕ) → In (boundaries table text) 0
start_is_boundary table text =
    filter_in (is_boundary (cluster_starts table (points (chars text))) (length text)) (offsets_to (length text)) 0 (in_offsets (length text) 0 (omega arith)) refl

pub end_is_boundary : (table : TableMap) (text : List ℕ) → In (boundaries table text) (length text)
end_is_boundary table text =
    let len = length text in
    let starts = cluster_starts table (points (chars text)) in
    filter_in (is_boundary starts len) (offsets_to len) len (in_offsets len len (omega arith))
    (or_left (len == 0 || len == len) (list_any (λ start. start == len) starts) (or_right (len == 0) (len == len) (eq-eqb len len refl)))

pub whole_is_among : (table : TableMap) (text : List ℕ) → In (ranges_among (boundaries table text)) (0, length text)
whole_is_among table text =
    let bs = boundaries table text in
    let len = length text in
    let pairs : ℕ → List (ℕ × ℕ) = λ start. map (λ (end : ℕ). (start, end)) (filter (nat_le start) bs) in
    flat_map_in pairs bs 0 (0, len) (start_is_boundary table text)
    (map_in (λ (end : ℕ). (0, end)) (filter (nat_le 0) bs) len (filter_in (nat_le 0) bs len (end_is_boundary table text) (le-leb 0 len (omega arith))))

-- ---- the part between them is the text

pub part_whole : (text : List ℕ) (range : ℕ × ℕ) → range.0 ≡ 0 → range.1 ≡ length text → part text range ≡ text
part_whole text range start end =
    ap (λ (a : ℕ). take (range.1 - a) (drop a text)) start ∙ ap (λ (b : ℕ). take (b - 0) (drop 0 text)) end
    ∙ take_all (length text - 0) text (omega arith)

pub equal_is : (table : TableMap) (strength : Strength) (variable : Variable) (pattern text : List ℕ) → is_equal table strength variable pattern text ≡ true →
    text_sort_key table strength variable pattern ≡ text_sort_key table strength variable text
equal_is table strength variable pattern text h =
    let key = text_sort_key table strength variable in
    let test = λ (range : ℕ × ℕ). bytes_eq (key (part text range)) (key pattern) in
    let there = any_in (is_whole (length text)) (all_matches table strength variable pattern text) h in
    let range = there.0 in
    let ends = and_parts (range.0 == 0) (range.1 == length text) there.2 in
    let same = (in_filter test (ranges_among (boundaries table text)) range there.1).1 in
    sym ((bytes_eq-Decides (key (part text range)) (key pattern)).0 same) ∙ ap key (part_whole text range (eqb-true range.0 0 ends.0) (eqb-true range.1 (length text) ends.1))

pub equal_from : (table : TableMap) (strength : Strength) (variable : Variable) (pattern text : List ℕ) →
    text_sort_key table strength variable pattern ≡ text_sort_key table strength variable text → is_equal table strength variable pattern text ≡ true
equal_from table strength variable pattern text e =
    let key = text_sort_key table strength variable in
    let len = length text in
    let whole : ℕ × ℕ = (0, len) in
    let test = λ (range : ℕ × ℕ). bytes_eq (key (part text range)) (key pattern) in
    let same = (bytes_eq-Decides (key (part text whole)) (key pattern)).1 (ap key (part_whole text whole refl refl) ∙ sym e) in
    in_any (is_whole len) (all_matches table strength variable pattern text) whole
    (filter_in test (ranges_among (boundaries table text)) whole (whole_is_among table text) same)
    (and_from (0 == 0) (len == len) refl (eq-eqb len len refl))

pub equal_sort_keys : EqualTextsHaveEqualSortKeys
equal_sort_keys table strength variable pattern text = (equal_is table strength variable pattern text, equal_from table strength variable pattern text)

pub equal_to_itself : EqualToItself
equal_to_itself table strength variable a = equal_from table strength variable a a refl

pub equal_both_ways : EqualBothWays
equal_both_ways table strength variable a b h = equal_from table strength variable b a (sym (equal_is table strength variable a b h))

pub equal_in_turn : EqualInTurn
equal_in_turn table strength variable a b c h k = equal_from table strength variable a c (equal_is table strength variable a b h ∙ equal_is table strength variable b c k)
