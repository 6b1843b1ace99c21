-- Small rows over the worked table: what is told going back.
use Rattle.std.specs.Prelude.{◌≡◌, ℕ, List, [], ◌∷◌, ◌++◌, length, codes, Option, None, Some, Result, Ok, Err}
use Rattle.collation_elements.specs.declared.settings.Strength.{Strength}
use Rattle.collation_elements.specs.declared.settings.Strength.TheVariants.{One, Two, Three}
use Rattle.collation_elements.specs.declared.settings.Variable.{Variable}
use Rattle.collation_elements.specs.declared.settings.Variable.TheVariants.{NonIgnorable, Shifted}
use Rattle.collation_elements.specs.WorkedTable.{worked_table}
use Rattle.collation_matches.specs.declared.faults.TextFault.{TextFault}
use Rattle.collation_matches.specs.declared.select.Select.TheVariants.{All}
use Rattle.collation_matches.specs.Answer.{Answer}
use Rattle.collation_matches.specs.Sought.{answer_to, seeking}
use Rattle.collation_matches.specs.WorkedRows.{acute, worked_sought}
use Rattle.collation_anchored.specs.Anchored.{ends}
use Rattle.collation_anchored.specs.WorkedRows.{worked_pattern}
use Rattle.collation_backward.specs.Backward.{said_up_to, start_told}
use Rattle.collation_backward.specs.Ending.{ends_answer}
use Rattle.collation_backward.specs.Laws.{found_backward}

-- the answer to a text, of a pattern at strength three, non-ignorable
abbrev pub worked_answer : List ℕ → List ℕ → Answer
worked_answer pattern text = answer_to (worked_sought pattern) pattern text

-- `aa` in `aaa`: the last range that ends at the end, behind the second letter, and behind the first one
pub record LastRanges : Type 0 where
  pub all : said_up_to 3 (worked_answer (codes "aa") (codes "aaa")) ≡ Ok (Some (1, 3))
  pub two : said_up_to 2 (worked_answer (codes "aa") (codes "aaa")) ≡ Ok (Some (0, 2))
  pub one : said_up_to 1 (worked_answer (codes "aa") (codes "aaa")) ≡ Ok None

-- `aa` in `aaa` and the byte ff: behind the fault it is met first; in front of it the last range that is settled is told
pub record RangesBeforeAFault : Type 0 where
  pub behind : said_up_to 4 (worked_answer (codes "aa") (codes "aaa" ++ 0xFF ∷ [])) ≡ Err (record { kind = 31; offset = 3 })
  pub at : said_up_to 3 (worked_answer (codes "aa") (codes "aaa" ++ 0xFF ∷ [])) ≡ Ok (Some (0, 2))

-- the ranges of `aa` in `aaaa` call by call, the last one first
abbrev pub RangesBackward : Type 0
RangesBackward = found_backward 4 (worked_answer (codes "aa") (codes "aaaa")).ranges 4 ≡ (2, 4) ∷ (1, 3) ∷ (0, 2) ∷ []

-- ---- the match that ends where a text ends

-- what is told of it, and what it is
abbrev pub worked_ends : Strength → Variable → List ℕ → List ℕ → Result (Option ℕ) TextFault × Option ℕ
worked_ends strength variable pattern text =
    let s = seeking worked_table (worked_pattern strength variable pattern) All in
    (start_told s pattern text (said_up_to (length text) (answer_to s pattern text)), ends worked_table strength variable pattern text)

-- `aa` in `aaa`, and `ab` in `aba`; `a` in the empty text
pub record EndsOfLetters : Type 0 where
  pub overlapping : worked_ends Three NonIgnorable (codes "aa") (codes "aaa") ≡ (Ok (Some 1), Some 1)
  pub earlier : worked_ends Three NonIgnorable (codes "ab") (codes "aba") ≡ (Ok None, None)
  pub empty : worked_ends Three NonIgnorable (codes "a") [] ≡ (Ok None, None)

-- `a` in `baa` and U+0301: the accent belongs to the match at strength one, and at the other ones no match ends there
pub record AccentBehind : Type 0 where
  pub one : worked_ends One NonIgnorable (codes "a") (codes "baa" ++ acute) ≡ (Ok (Some 2), Some 2)
  pub two : worked_ends Two NonIgnorable (codes "a") (codes "baa" ++ acute) ≡ (Ok None, None)

-- `ab` in `cab-`: shifted, the hyphen behind the last minimal match belongs to the match; a soft hyphen always does
pub record HyphensBehind : Type 0 where
  pub shifted : worked_ends Three Shifted (codes "ab") (codes "cab-") ≡ (Ok (Some 1), Some 1)
  pub kept : worked_ends Three NonIgnorable (codes "ab") (codes "cab-") ≡ (Ok None, None)
  pub soft : worked_ends Three NonIgnorable (codes "ab") (codes "cab" ++ 0xC2 ∷ 0xAD ∷ []) ≡ (Ok (Some 1), Some 1)

-- `c`, `h` and `ch` in `ach`
pub record ContractionBehind : Type 0 where
  pub first : worked_ends Three NonIgnorable (codes "c") (codes "ach") ≡ (Ok None, None)
  pub second : worked_ends Three NonIgnorable (codes "h") (codes "ach") ≡ (Ok None, None)
  pub both : worked_ends Three NonIgnorable (codes "ch") (codes "ach") ≡ (Ok (Some 1), Some 1)

-- ---- the same of bytes at fault

abbrev pub worked_answer_of_end : List ℕ → List ℕ → Result (Option ℕ) TextFault
worked_answer_of_end pattern text = ends_answer worked_table (worked_pattern Three NonIgnorable pattern) pattern text

-- a fault that ends a text is told: in `a` and the byte ff, and in `a` and two bytes of three
pub record FaultBehind : Type 0 where
  pub bad : worked_answer_of_end (codes "a") (codes "a" ++ 0xFF ∷ []) ≡ Err (record { kind = 31; offset = 1 })
  pub cut : worked_answer_of_end (codes "a") (codes "a" ++ 0xE4 ∷ 0xB8 ∷ []) ≡ Err (record { kind = 31; offset = 1 })

-- a fault in front: what stands behind it decides where it ends with a match, or has more keys than the pattern; of two faults the last one
-- is told; `h`, which may end a contraction, is no place to read from
pub record FaultInFront : Type 0 where
  pub match : worked_answer_of_end (codes "a") (codes "a" ++ 0xFF ∷ codes "ba") ≡ Ok (Some 3)
  pub more : worked_answer_of_end (codes "a") (0xFF ∷ codes "bb") ≡ Ok None
  pub few : worked_answer_of_end (codes "ab") (0xFF ∷ codes "bb") ≡ Err (record { kind = 31; offset = 0 })
  pub last : worked_answer_of_end (codes "ab") (0xFF ∷ codes "b" ++ 0xFF ∷ codes "b") ≡ Err (record { kind = 31; offset = 2 })
  pub unsafe_letter : worked_answer_of_end (codes "a") (0xFF ∷ codes "hb") ≡ Err (record { kind = 31; offset = 0 })
