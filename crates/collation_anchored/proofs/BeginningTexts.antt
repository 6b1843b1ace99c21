-- A match that begins where a text begins: the least one, and the text up to its end.
use Rattle.std.proofs.Common.{◌≡◌, ◌∙◌, ℕ, ◌-◌, ◌≤◌, ◌==◌, Bool, List, [], ◌∷◌, length, take, drop, map, filter, bytes_eq, Some, is_some, slice_get, refl, sym, ap, arith, inl, inr}
use Rattle.std.proofs.lemmas.Bool.{and_parts, eqb-true, eq-eqb}
use Rattle.std.proofs.lemmas.Slice.Eq.{bytes_eq-Decides}
use Rattle.collation_table.specs.Table.{TableMap}
use Rattle.collation_elements.specs.declared.settings.Variable.{Variable}
use Rattle.collation_elements.specs.declared.settings.Strength.{Strength}
use Rattle.collation_elements.specs.Boundaries.{boundaries}
use Rattle.collation_pattern.specs.SortKey.{text_sort_key}
use Rattle.collation_matches.specs.Matches.{ranges_among, part}
use Rattle.collation_matches.proofs.BridgeLists.{In, Rising, in_filter, filter_in, rising_filter, any_in}
use Rattle.collation_matches.proofs.BridgeMatches.{rising_boundaries}
use Rattle.collation_matches.proofs.BridgeRanges.{Before, rising_ranges}
use Rattle.collation_matches.proofs.LagLaw.{contains-in}
use Rattle.collation_anchored.specs.Anchored.{all_matches, is_whole}
use Rattle.collation_anchored.specs.Laws.{BeginningsAreLeast, BeginningsAreEqual, EqualTextsBegin}
use Rattle.collation_anchored.proofs.EqualTexts.{equal_from}

-- ---- the first of some ranges with the same start

record Least (ranges : List (ℕ × ℕ)) (end : ℕ) : Type 0 where
  pub least : ℕ
  pub is : slice_get (map (λ (r : ℕ × ℕ). r.1) ranges) 0 ≡ Some least
  pub below : least ≤ end

least_of : (ranges : List (ℕ × ℕ)) (range : ℕ × ℕ) → Rising Before ranges → ((other : ℕ × ℕ) → In ranges other → other.0 ≡ range.0) → In ranges range → Least ranges range.1
least_of [] range up same there = absurd there
least_of (r ∷ rs) range up same (inl e) = let end = ap (λ (q : ℕ × ℕ). q.1) e in record { least = r.1; is = refl; below = omega (arith, end) }
least_of (r ∷ rs) range up same (inr later) =
    let rises = up.0 range later in
    let start = same r (inl refl) in
    record { least = r.1; is = refl; below = elim rises [ inl lower ↦ absurd (omega arith) | inr beside ↦ omega arith ] }

first_in : (ranges : List (ℕ × ℕ)) (end : ℕ) → slice_get (map (λ (r : ℕ × ℕ). r.1) ranges) 0 ≡ Some end → (range : ℕ × ℕ) × In ranges range × (range.1 ≡ end)
first_in [] end h = cc
first_in (r ∷ rs) end h = let there : r.1 ≡ end = cc in (r, inl refl, there)

-- ---- all matches of a pattern

abbrev from_zero : ℕ × ℕ → Bool
from_zero range = range.0 == 0

rising : (table : TableMap) (strength : Strength) (variable : Variable) (pattern text : List ℕ) → Rising Before (filter from_zero (all_matches table strength variable pattern text))
rising table strength variable pattern text =
    let key = text_sort_key table strength variable in
    let test = λ (range : ℕ × ℕ). bytes_eq (key (part text range)) (key pattern) in
    let bs = boundaries table text in
    rising_filter Before from_zero (all_matches table strength variable pattern text) (rising_filter Before test (ranges_among bs) (rising_ranges bs (rising_boundaries table text)))

least_in : (table : TableMap) (strength : Strength) (variable : Variable) (pattern text : List ℕ) (range : ℕ × ℕ) → In (all_matches table strength variable pattern text) range → range.0 ≡ 0 →
    Least (filter from_zero (all_matches table strength variable pattern text)) range.1
least_in table strength variable pattern text range there zero =
    let all = all_matches table strength variable pattern text in
    least_of (filter from_zero all) range (rising table strength variable pattern text) (λ other h. eqb-true other.0 0 (in_filter from_zero all other h).1 ∙ sym zero)
    (filter_in from_zero all range there (eq-eqb range.0 0 zero))

pub least_beginning : BeginningsAreLeast
least_beginning table strength variable pattern text end h =
    let found = least_in table strength variable pattern text (0, end) (contains-in (all_matches table strength variable pattern text) (0, end) h) refl in
    (found.least, found.is, found.below)

pub equal_beginning : BeginningsAreEqual
equal_beginning table strength variable pattern text end h =
    let key = text_sort_key table strength variable in
    let test = λ (range : ℕ × ℕ). bytes_eq (key (part text range)) (key pattern) in
    let all = all_matches table strength variable pattern text in
    let found = first_in (filter from_zero all) end h in
    let range = found.0 in
    let kept = in_filter from_zero all range found.1 in
    let zero = eqb-true range.0 0 kept.1 in
    let same = (bytes_eq-Decides (key (part text range)) (key pattern)).0 (in_filter test (ranges_among (boundaries table text)) range kept.0).1 in
    let less : end - 0 ≡ end = omega arith in
    let front : part text range ≡ take end text =
    ap (λ (a : ℕ). take (range.1 - a) (drop a text)) zero ∙ ap (λ (b : ℕ). take (b - 0) text) found.2 ∙ ap (λ (n : ℕ). take n text) less in
    equal_from table strength variable pattern (take end text) (sym same ∙ ap key front)

pub equal_begins : EqualTextsBegin
equal_begins table strength variable pattern text h =
    let all = all_matches table strength variable pattern text in
    let there = any_in (is_whole (length text)) all h in
    let ends = and_parts ((there.0).0 == 0) ((there.0).1 == length text) there.2 in
    let found = least_in table strength variable pattern text there.0 there.1 (eqb-true (there.0).0 0 ends.0) in
    ap is_some found.is
