-- Worked rows over the worked table: what the definitions give for small texts.
use Rattle.std.specs.Prelude.{◌≡◌, ℕ, Bool, true, false, List, [], ◌∷◌, ◌++◌, codes, Ok, Err, Result, Option, Some, None}
use Rattle.collation_elements.specs.declared.settings.Variable.{Variable}
use Rattle.collation_elements.specs.declared.settings.Variable.TheVariants.{NonIgnorable, Shifted}
use Rattle.collation_elements.specs.declared.settings.Strength.{Strength}
use Rattle.collation_elements.specs.declared.settings.Strength.TheVariants.{One, Two, Three}
use Rattle.collation_elements.specs.WorkedTable.{worked_table}
use Rattle.collation_pattern.specs.Compiled.{Compiled}
use Rattle.collation_pattern.specs.Levels.{text_keys}
use Rattle.collation_matches.specs.declared.faults.TextFault.{TextFault}
use Rattle.collation_matches.specs.WorkedRows.{e_acute, acute}
use Rattle.collation_anchored.specs.Answers.{equal_answer, begins_answer}

-- the pattern of a text under the worked table
abbrev pub worked_pattern : Strength → Variable → List ℕ → Compiled
worked_pattern strength variable p = record { keys = text_keys worked_table strength variable p; strength = strength; variable = variable }

abbrev pub worked_equal : Strength → Variable → List ℕ → List ℕ → Result Bool TextFault
worked_equal strength variable p bytes = equal_answer worked_table (worked_pattern strength variable p) p bytes

abbrev pub worked_begins : Strength → Variable → List ℕ → List ℕ → Result (Option ℕ) TextFault
worked_begins strength variable p bytes = begins_answer worked_table (worked_pattern strength variable p) p bytes

-- composed `résumé`
abbrev pub composed : List ℕ
composed = 0x72 ∷ e_acute ++ codes "sum" ++ e_acute

-- `resume` and composed `résumé` at each strength
pub record ResumeAtEachStrength : Type 0 where
  pub one : worked_equal One NonIgnorable (codes "resume") composed ≡ Ok true
  pub two : worked_equal Two NonIgnorable (codes "resume") composed ≡ Ok false
  pub three : worked_equal Three NonIgnorable (codes "resume") composed ≡ Ok false

-- composed and decomposed, at strength three
abbrev pub ComposedAndDecomposed : Type 0
ComposedAndDecomposed = worked_equal Three NonIgnorable composed (codes "re" ++ acute ++ codes "sume" ++ acute) ≡ Ok true

-- `a` and U+0301 `a`: at strength one the accent in front belongs to the match
pub record AccentInFront : Type 0 where
  pub one : worked_equal One NonIgnorable (codes "a") (acute ++ codes "a") ≡ Ok true
  pub two : worked_equal Two NonIgnorable (codes "a") (acute ++ codes "a") ≡ Ok false

-- `c`, and `h`, and the contraction `ch`
pub record ContractionAtTheEnds : Type 0 where
  pub front : worked_equal Three NonIgnorable (codes "c") (codes "ch") ≡ Ok false
  pub whole : worked_equal Three NonIgnorable (codes "ch") (codes "ch") ≡ Ok true

-- `ab` and `-a - b ` at strength three
pub record HyphensAround : Type 0 where
  pub shifted : worked_equal Three Shifted (codes "ab") (codes "-a - b ") ≡ Ok true
  pub kept : worked_equal Three NonIgnorable (codes "ab") (codes "-a - b ") ≡ Ok false

-- `aa` and `aaa`, and the other way round; the empty text
pub record TooLongAndTooShort : Type 0 where
  pub longer : worked_equal Three NonIgnorable (codes "aa") (codes "aaa") ≡ Ok false
  pub shorter : worked_equal Three NonIgnorable (codes "aaa") (codes "aa") ≡ Ok false
  pub empty : worked_equal Three NonIgnorable (codes "a") [] ≡ Ok false

-- `ab` and bytes with ff: the fault is told where the keys before it are the first of the pattern's, or all of them
pub record AtAFault : Type 0 where
  pub begun : worked_equal Three NonIgnorable (codes "ab") (codes "a" ++ 0xFF ∷ []) ≡ Err (record { kind = 31; offset = 1 })
  pub all : worked_equal Three NonIgnorable (codes "ab") (codes "ab" ++ 0xFF ∷ []) ≡ Err (record { kind = 31; offset = 2 })
  pub apart : worked_equal Three NonIgnorable (codes "ab") (codes "b" ++ 0xFF ∷ []) ≡ Ok false

-- ---- matches that begin where a text begins

-- `resume` in `résumés` at each strength
pub record ResumeBegins : Type 0 where
  pub one : worked_begins One NonIgnorable (codes "resume") (composed ++ codes "s") ≡ Ok (Some 8)
  pub two : worked_begins Two NonIgnorable (codes "resume") (composed ++ codes "s") ≡ Ok None
  pub three : worked_begins Three NonIgnorable (codes "resume") (composed ++ codes "s") ≡ Ok None
  pub composed : worked_begins Three NonIgnorable composed (codes "re" ++ acute ++ codes "sume" ++ acute ++ codes "s") ≡ Ok (Some 10)

-- `a` and U+0301 `ab`: at strength one the accent in front belongs to the match, and at the other ones no match begins there
pub record AccentFirst : Type 0 where
  pub one : worked_begins One NonIgnorable (codes "a") (acute ++ codes "ab") ≡ Ok (Some 3)
  pub two : worked_begins Two NonIgnorable (codes "a") (acute ++ codes "ab") ≡ Ok None

-- `a` and `a` U+0301 `b`: a match ends with its cluster
pub record AccentNext : Type 0 where
  pub one : worked_begins One NonIgnorable (codes "a") (codes "a" ++ acute ++ codes "b") ≡ Ok (Some 3)
  pub two : worked_begins Two NonIgnorable (codes "a") (codes "a" ++ acute ++ codes "b") ≡ Ok None

-- `c`, and the contraction `ch`
pub record ContractionBegins : Type 0 where
  pub amid : worked_begins Three NonIgnorable (codes "c") (codes "ch") ≡ Ok None
  pub behind : worked_begins Three NonIgnorable (codes "ch") (codes "cha") ≡ Ok (Some 2)
  pub apart : worked_begins Three NonIgnorable (codes "c") (codes "cah") ≡ Ok (Some 1)

-- `ab` and `-a - b c`: the hyphen in front belongs to the match, and the space behind does not
pub record HyphensFirst : Type 0 where
  pub shifted : worked_begins Three Shifted (codes "ab") (codes "-a - b c") ≡ Ok (Some 6)
  pub kept : worked_begins Three NonIgnorable (codes "ab") (codes "-a - b c") ≡ Ok None

-- `aa` and `aaa`, and the other way round; a later `a`; the empty text
pub record LongerAndShorter : Type 0 where
  pub longer : worked_begins Three NonIgnorable (codes "aa") (codes "aaa") ≡ Ok (Some 2)
  pub shorter : worked_begins Three NonIgnorable (codes "aaa") (codes "aa") ≡ Ok None
  pub later : worked_begins Three NonIgnorable (codes "a") (codes "ba") ≡ Ok None
  pub empty : worked_begins Three NonIgnorable (codes "a") [] ≡ Ok None

-- U+AC00 and U+AC01, as one code point and as three jamo
pub record HangulBegins : Type 0 where
  pub syllable : worked_begins Three NonIgnorable (0xEA ∷ 0xB0 ∷ 0x80 ∷ []) (0xEA ∷ 0xB0 ∷ 0x81 ∷ []) ≡ Ok None
  pub jamo : worked_begins Three NonIgnorable (0xEA ∷ 0xB0 ∷ 0x80 ∷ []) (0xE1 ∷ 0x84 ∷ 0x80 ∷ 0xE1 ∷ 0x85 ∷ 0xA1 ∷ 0xE1 ∷ 0x86 ∷ 0xA8 ∷ []) ≡ Ok (Some 6)

-- `ab` and bytes with ff: a match that ends before the fault is told, and one that ends at it is not
pub record BeginsAtAFault : Type 0 where
  pub begun : worked_begins Three NonIgnorable (codes "ab") (codes "a" ++ 0xFF ∷ []) ≡ Err (record { kind = 31; offset = 1 })
  pub all : worked_begins Three NonIgnorable (codes "ab") (codes "ab" ++ 0xFF ∷ []) ≡ Err (record { kind = 31; offset = 2 })
  pub before : worked_begins Three NonIgnorable (codes "ab") (codes "aba" ++ 0xFF ∷ []) ≡ Ok (Some 2)
  pub ignorable : worked_begins Three Shifted (codes "ab") (codes "ab-" ++ 0xFF ∷ []) ≡ Ok (Some 2)
  pub apart : worked_begins Three NonIgnorable (codes "ab") (codes "b" ++ 0xFF ∷ []) ≡ Ok None
