-- Worked rows over the worked table: what the definitions give for small texts.
use Rattle.std.specs.Prelude.{◌≡◌, ℕ, List, [], ◌∷◌, ◌++◌, drop, codes, None, Some}
use Rattle.collation_elements.specs.declared.settings.Variable.TheVariants.{NonIgnorable, Shifted}
use Rattle.collation_elements.specs.declared.settings.Strength.TheVariants.{One, Two, Three}
use Rattle.collation_matches.specs.Matches.{matches}
use Rattle.collation_matches.specs.Answer.{answer}
use Rattle.collation_matches.specs.declared.select.Select.TheVariants.{All, Chain}
use Rattle.collation_matches.specs.Selecting.{chain, selected_answer}
use Rattle.collation_matches.specs.Sought.{Sought, seeking}
use Rattle.collation_matches.specs.PartLaws.{answer_of_parts}
use Rattle.collation_pattern.specs.Levels.{text_keys}
use Rattle.collation_elements.specs.WorkedTable.{worked_table}

-- UTF-8 of U+00E9, U+00FA, U+0300, U+0301, U+0327
abbrev pub e_acute : List ℕ
e_acute = 0xC3 ∷ 0xA9 ∷ []

abbrev pub u_acute : List ℕ
u_acute = 0xC3 ∷ 0xBA ∷ []

abbrev pub grave : List ℕ
grave = 0xCC ∷ 0x80 ∷ []

abbrev pub acute : List ℕ
acute = 0xCC ∷ 0x81 ∷ []

abbrev pub cedilla : List ℕ
cedilla = 0xCC ∷ 0xA7 ∷ []

-- `aa` in `aaa`: ranges that overlap are all found
abbrev pub OverlappingLetters : Type 0
OverlappingLetters = matches worked_table Three NonIgnorable (codes "aa") (codes "aaa") ≡ (0, 2) ∷ (1, 3) ∷ []

-- `resume` in composed `résumé` at strength one: the whole text, its last accent too
abbrev pub ComposedPrimary : Type 0
ComposedPrimary = matches worked_table One NonIgnorable (codes "resume") (0x72 ∷ e_acute ++ codes "sum" ++ e_acute) ≡ (0, 8) ∷ []

-- the same at strength two: nothing
abbrev pub ComposedSecondary : Type 0
ComposedSecondary = matches worked_table Two NonIgnorable (codes "resume") (0x72 ∷ e_acute ++ codes "sum" ++ e_acute) ≡ []

-- `resume` in decomposed `résumé` at strength one
abbrev pub DecomposedPrimary : Type 0
DecomposedPrimary = matches worked_table One NonIgnorable (codes "resume") (codes "re" ++ acute ++ codes "sume" ++ acute) ≡ (0, 10) ∷ []

-- the same at strength two: nothing
abbrev pub DecomposedSecondary : Type 0
DecomposedSecondary = matches worked_table Two NonIgnorable (codes "resume") (codes "re" ++ acute ++ codes "sume" ++ acute) ≡ []

-- `c` in the contraction `ch`: nothing
abbrev pub InsideContraction : Type 0
InsideContraction = matches worked_table Three NonIgnorable (codes "c") (codes "ch") ≡ []

-- `h` in `ch`, and in its rest from amid the contraction on, which is no boundary
abbrev pub RestAmidContraction : Type 0
RestAmidContraction =
    (matches worked_table Three NonIgnorable (codes "h") (codes "ch") ≡ [])
    × (matches worked_table Three NonIgnorable (codes "h") (drop 1 (codes "ch")) ≡ (0, 1) ∷ [])

-- `ab` in `a - b`, shifted
abbrev pub HyphenShifted : Type 0
HyphenShifted = matches worked_table Three Shifted (codes "ab") (codes "a - b") ≡ (0, 5) ∷ []

-- the same, non-ignorable: nothing
abbrev pub HyphenKept : Type 0
HyphenKept = matches worked_table Three NonIgnorable (codes "ab") (codes "a - b") ≡ []

-- `a` in `a` and U+00AD
abbrev pub SoftHyphen : Type 0
SoftHyphen = matches worked_table Three NonIgnorable (codes "a") (0x61 ∷ 0xC2 ∷ 0xAD ∷ []) ≡ (0, 3) ∷ []

-- U+00FA at strength one in `u` U+0327 U+0301: a discontiguous contraction
abbrev pub Discontiguous : Type 0
Discontiguous = matches worked_table One NonIgnorable (u_acute) (0x75 ∷ cedilla ++ acute) ≡ (0, 5) ∷ []

-- the same at strength two: nothing, for the cedilla is left over
abbrev pub DiscontiguousSecondary : Type 0
DiscontiguousSecondary = matches worked_table Two NonIgnorable (u_acute) (0x75 ∷ cedilla ++ acute) ≡ []

-- U+00FA at strength one in `u` U+0300 U+0301: nothing, for U+0301 is blocked
abbrev pub BlockedAccent : Type 0
BlockedAccent = matches worked_table One NonIgnorable (u_acute) (0x75 ∷ grave ++ acute) ≡ []

-- `u` at strength one there
abbrev pub BlockedBase : Type 0
BlockedBase = matches worked_table One NonIgnorable (codes "u") (0x75 ∷ grave ++ acute) ≡ (0, 5) ∷ []

-- `a` at strength one in U+0301 `a`: the match that begins at 0 is not minimal
abbrev pub AccentBefore : Type 0
AccentBefore = matches worked_table One NonIgnorable (codes "a") (acute ++ codes "a") ≡ (2, 3) ∷ []

-- `a` in `ab`, a space and the byte ff
abbrev pub BadByte : Type 0
BadByte = answer worked_table Three NonIgnorable (codes "a") (codes "ab " ++ 0xFF ∷ []) ≡ record { ranges = (0, 1) ∷ []; fault = Some (record { kind = 31; offset = 3 }) }

-- `b` in `ab` and the byte c3: the match that ends at the fault is not handed out
abbrev pub IncompleteSequence : Type 0
IncompleteSequence = answer worked_table Three NonIgnorable (codes "b") (codes "ab" ++ 0xC3 ∷ []) ≡ record { ranges = []; fault = Some (record { kind = 31; offset = 2 }) }

-- the chain of `aa` in `aaaa`: the range from 1 to 3 overlaps the first one
abbrev pub ChainOfLetters : Type 0
ChainOfLetters = chain (matches worked_table Three NonIgnorable (codes "aa") (codes "aaaa")) ≡ (0, 2) ∷ (2, 4) ∷ []

-- the chain of `aa` in `aaaaa` and the byte ff: of the settled ranges
abbrev pub ChainAtBadByte : Type 0
ChainAtBadByte =
    selected_answer Chain (answer worked_table Three NonIgnorable (codes "aa") (codes "aaaaa" ++ 0xFF ∷ []))
    ≡ record { ranges = (0, 2) ∷ (2, 4) ∷ []; fault = Some (record { kind = 31; offset = 5 }) }

-- what is looked for at strength three, non-ignorable
abbrev pub worked_sought : List ℕ → Sought
worked_sought pattern =
    seeking worked_table (record { keys = text_keys worked_table Three NonIgnorable pattern; strength = Three; variable = NonIgnorable }) All

-- `aa` in `aaaa`, cut behind the first and the third letter: each range once, by the part in which it begins
abbrev pub PartsOfLetters : Type 0
PartsOfLetters =
    answer_of_parts (worked_sought (codes "aa")) (codes "aa") (codes "aaaa") 0 (1 ∷ 3 ∷ [])
    ≡ record { ranges = (0, 2) ∷ (1, 3) ∷ (2, 4) ∷ []; fault = None }

-- `aa` in `aaa`, the byte ff and `aa`, cut behind the first letter and behind the bad byte: the text ends at that
abbrev pub PartsAtBadByte : Type 0
PartsAtBadByte =
    answer_of_parts (worked_sought (codes "aa")) (codes "aa") (codes "aaa" ++ 0xFF ∷ codes "aa") 0 (1 ∷ 4 ∷ [])
    ≡ record { ranges = (0, 2) ∷ []; fault = Some (record { kind = 31; offset = 3 }) }
