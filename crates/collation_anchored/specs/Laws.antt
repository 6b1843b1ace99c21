-- What it means that a whole text is a match, or that one begins or ends where a text does.
use Rattle.std.specs.Prelude.{◌≡◌, ℕ, ◌≤◌, true, ◌↔◌, Contains, List, take, drop, Option, None, Some, is_some, if◌then◌else◌}
use Rattle.std.specs.Str.{IsUtf8}
use Rattle.collation_table.specs.Table.{TableMap}
use Rattle.collation_elements.specs.declared.settings.Variable.{Variable}
use Rattle.collation_elements.specs.declared.settings.Strength.{Strength}
use Rattle.collation_pattern.specs.SortKey.{text_sort_key}
use Rattle.collation_matches.specs.Matches.{matches}
use Rattle.collation_anchored.specs.Anchored.{all_matches, is_equal, begins, last_of, ends}

-- equal texts are those with equal sort keys
abbrev pub EqualTextsHaveEqualSortKeys : Type 0
EqualTextsHaveEqualSortKeys =
    (table : TableMap) (strength : Strength) (variable : Variable) (pattern text : List ℕ) →
    (is_equal table strength variable pattern text ≡ true) ↔ (text_sort_key table strength variable pattern ≡ text_sort_key table strength variable text)

-- so it is an equivalence at each strength
abbrev pub EqualToItself : Type 0
EqualToItself = (table : TableMap) (strength : Strength) (variable : Variable) (a : List ℕ) → is_equal table strength variable a a ≡ true

abbrev pub EqualBothWays : Type 0
EqualBothWays =
    (table : TableMap) (strength : Strength) (variable : Variable) (a b : List ℕ) → is_equal table strength variable a b ≡ true → is_equal table strength variable b a ≡ true

abbrev pub EqualInTurn : Type 0
EqualInTurn =
    (table : TableMap) (strength : Strength) (variable : Variable) (a b c : List ℕ) →
    is_equal table strength variable a b ≡ true → is_equal table strength variable b c ≡ true → is_equal table strength variable a c ≡ true

-- ---- matches that begin where a text begins

-- no match that begins at 0 ends before the one that is told
abbrev pub BeginningsAreLeast : Type 0
BeginningsAreLeast =
    (table : TableMap) (strength : Strength) (variable : Variable) (pattern text : List ℕ) (end : ℕ) →
    Contains (all_matches table strength variable pattern text) (0, end) →
    (least : ℕ) × (begins table strength variable pattern text ≡ Some least) × (least ≤ end)

-- the text up to where it ends is equal
abbrev pub BeginningsAreEqual : Type 0
BeginningsAreEqual =
    (table : TableMap) (strength : Strength) (variable : Variable) (pattern text : List ℕ) (end : ℕ) →
    begins table strength variable pattern text ≡ Some end → is_equal table strength variable pattern (take end text) ≡ true

-- and a text that is equal begins so
abbrev pub EqualTextsBegin : Type 0
EqualTextsBegin =
    (table : TableMap) (strength : Strength) (variable : Variable) (pattern text : List ℕ) →
    is_equal table strength variable pattern text ≡ true → is_some (begins table strength variable pattern text) ≡ true

-- ---- matches that end where a text ends

-- where a range begins, if the text from there on is equal
abbrev pub start_of_equal : TableMap → Strength → Variable → List ℕ → List ℕ → Option (ℕ × ℕ) → Option ℕ
start_of_equal table strength variable pattern text None = None
start_of_equal table strength variable pattern text (Some range) =
    if is_equal table strength variable pattern (drop range.0 text) then Some range.0 else None

-- the greatest start of a match that ends there is that of the last minimal match, or there is none
abbrev pub EndsByLastRange : TableMap → Type 0
EndsByLastRange table =
    (strength : Strength) (variable : Variable) (pattern text : List ℕ) → IsUtf8 pattern → IsUtf8 text →
    ends table strength variable pattern text
    ≡ start_of_equal table strength variable pattern text (last_of (matches table strength variable pattern text))
