-- The key law: under a well-formed table two texts have the same sort key exactly where they have the same list of keys.
use Rattle.std.specs.Prelude.{◌≡◌, ℕ, ◌↔◌, List}
use Rattle.std.specs.Str.{IsUtf8}
use Rattle.collation_table.specs.Table.{TableMap}
use Rattle.collation_elements.specs.declared.settings.Variable.{Variable}
use Rattle.collation_elements.specs.declared.settings.Strength.{Strength}
use Rattle.collation_pattern.specs.SortKey.{text_sort_key}
use Rattle.collation_pattern.specs.Levels.{text_keys, levels}

-- of any two texts
abbrev pub KeyLaw : TableMap → Type 0
KeyLaw T =
    (s : Strength) (v : Variable) (a b : List ℕ) → IsUtf8 a → IsUtf8 b →
    (text_sort_key T s v a ≡ text_sort_key T s v b) ↔ (text_keys T s v a ≡ text_keys T s v b)

-- a text's sort key is the levels of its keys, whatever the table
abbrev pub SortKeyIsLevels : TableMap → Type 0
SortKeyIsLevels T = (s : Strength) (v : Variable) (text : List ℕ) → text_sort_key T s v text ≡ levels s (text_keys T s v text)
