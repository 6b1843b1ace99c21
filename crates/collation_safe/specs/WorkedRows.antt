-- Small rows: characters of a small table, and whether they are safe.
use Rattle.std.specs.Prelude.{◌≡◌, true, false, [], ◌∷◌, map, codes}
use Rattle.collation_table.specs.Table.{TableMap}
use Rattle.collation_elements.specs.Boundaries.{boundaries}
use Rattle.collation_elements.specs.WorkedTable.{row, worked_table}
use Rattle.collation_safe.specs.Safe.{is_safe_character, IsSafeOffset}

-- `c` and `a` are safe, and a blank, which is variable; `h` may be the second letter of `ch`
pub record ContractionOfLetters : Type 0 where
  pub first : is_safe_character worked_table 0x63 ≡ true
  pub letter : is_safe_character worked_table 0x61 ≡ true
  pub blank : is_safe_character worked_table 0x20 ≡ true
  pub second : is_safe_character worked_table 0x68 ≡ false

-- no mark is safe, and no ignorable character; a letter with a mark is as the letter is
pub record MarksAndIgnorables : Type 0 where
  pub acute : is_safe_character worked_table 0x301 ≡ false
  pub cedilla : is_safe_character worked_table 0x327 ≡ false
  pub circle : is_safe_character worked_table 0x20DD ≡ false
  pub soft_hyphen : is_safe_character worked_table 0xAD ≡ false
  pub virama : is_safe_character worked_table 0x94D ≡ false
  pub composed : is_safe_character worked_table 0xE9 ≡ true

-- without rows of their own these have implicit weights: a syllable of Hangul and its jamo, an ideograph, a consonant of Devanagari
pub record CharactersWithoutRows : Type 0 where
  pub syllable : is_safe_character worked_table 0xAC00 ≡ true
  pub leading : is_safe_character worked_table 0x1100 ≡ true
  pub vowel : is_safe_character worked_table 0x1161 ≡ true
  pub ideograph : is_safe_character worked_table 0x4E00 ≡ true
  pub consonant : is_safe_character worked_table 0x915 ≡ true

-- a vowel of Thai, and one of Lao, with the consonant that follows it
abbrev pub table_of_vowels : TableMap
table_of_vowels = record {
  ranges = [];
  rows =
      row (0xE01 ∷ []) false 0x1C00 0x20 2 ∷
      row (0xE40 ∷ []) false 0x1C10 0x20 2 ∷
      row (0xE40 ∷ 0xE01 ∷ []) false 0x1C08 0x20 2 ∷
      row (0xE32 ∷ []) false 0x1C20 0x20 2 ∷
      row (0xE81 ∷ []) false 0x1C30 0x20 2 ∷
      row (0xEC0 ∷ []) false 0x1C40 0x20 2 ∷
      row (0xEC0 ∷ 0xE81 ∷ []) false 0x1C38 0x20 2 ∷ [];
}

-- the vowel before a consonant is safe, the consonant is not, and a vowel that stands in no contraction is
pub record VowelsBeforeConsonants : Type 0 where
  pub thai_vowel : is_safe_character table_of_vowels 0xE40 ≡ true
  pub thai_consonant : is_safe_character table_of_vowels 0xE01 ≡ false
  pub later_vowel : is_safe_character table_of_vowels 0xE32 ≡ true
  pub lao_vowel : is_safe_character table_of_vowels 0xEC0 ≡ true
  pub lao_consonant : is_safe_character table_of_vowels 0xE81 ≡ false

-- a table in which each letter may be the second of a string
abbrev pub table_of_pairs : TableMap
table_of_pairs = record {
  ranges = [];
  rows =
      row (0x61 ∷ []) false 0x1C00 0x20 2 ∷
      row (0x62 ∷ []) false 0x1C10 0x20 2 ∷
      row (0x61 ∷ 0x62 ∷ []) false 0x1C08 0x20 2 ∷
      row (0x62 ∷ 0x61 ∷ []) false 0x1C18 0x20 2 ∷ [];
}

-- no letter is safe there
abbrev pub EachLetterContinuesAString : Type 0
EachLetterContinuesAString = map (is_safe_character table_of_pairs) (codes "ab") ≡ false ∷ false ∷ []

-- a letter is not safe where a string that begins with it has no primary weight
abbrev pub table_of_an_ignorable : TableMap
table_of_an_ignorable = record {
  ranges = [];
  rows =
      row (0x61 ∷ []) false 0x1C00 0x20 2 ∷
      row (0x61 ∷ 0x301 ∷ []) false 0 0x24 2 ∷ [];
}

abbrev pub IgnorableString : Type 0
IgnorableString = is_safe_character table_of_an_ignorable 0x61 ≡ false

-- in `ach` the offsets of `a` and of `c` are safe, and the boundaries are these and the end
pub record OffsetsOfText : Type 0 where
  pub first : IsSafeOffset worked_table (codes "ach") 0
  pub second : IsSafeOffset worked_table (codes "ach") 1
  pub boundaries_are : boundaries worked_table (codes "ach") ≡ 0 ∷ 1 ∷ 3 ∷ []
