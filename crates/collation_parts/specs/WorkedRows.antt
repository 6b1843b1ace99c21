-- Worked rows over the worked table: what the parts of small texts have.
use Rattle.std.specs.Prelude.{◌≡◌, ℕ, List, [], ◌∷◌, ◌++◌, codes, None, Some}
use Rattle.collation_matches.specs.Answer.{Answer}
use Rattle.collation_matches.specs.WorkedRows.{worked_sought}
use Rattle.collation_parts.specs.Parts.{part_answer, answer_in_parts}

-- what the part between two offsets of a text has for a pattern
abbrev pub part_of : List ℕ → List ℕ → ℕ → ℕ → Answer
part_of pattern bytes from to = part_answer (worked_sought pattern) pattern bytes from to

-- `aa` in `aaaa`, cut in the middle: the first part has the range that reaches over the cut, and the second one does not have it again
pub record SinglePartsOfLetters : Type 0 where
  pub first : part_of (codes "aa") (codes "aaaa") 0 2 ≡ record { ranges = (0, 2) ∷ (1, 3) ∷ []; fault = None }
  pub second : part_of (codes "aa") (codes "aaaa") 2 4 ≡ record { ranges = (2, 4) ∷ []; fault = None }
  pub both : answer_in_parts (worked_sought (codes "aa")) (codes "aa") (codes "aaaa") 0 (2 ∷ [])
      ≡ record { ranges = (0, 2) ∷ (1, 3) ∷ (2, 4) ∷ []; fault = None }
  pub backwards : part_of (codes "aa") (codes "aaaa") 2 1 ≡ record { ranges = []; fault = None }
  pub behind : part_of (codes "aa") (codes "aaaa") 7 9 ≡ record { ranges = []; fault = None }

-- `a` in `aa`, the byte ff and `aa`: the fault is of each part up to which it stands, also of one that ends there
pub record SinglePartsAtBadByte : Type 0 where
  pub before : part_of (codes "a") (codes "aa" ++ 0xFF ∷ codes "aa") 0 1 ≡ record { ranges = (0, 1) ∷ []; fault = None }
  pub with : part_of (codes "a") (codes "aa" ++ 0xFF ∷ codes "aa") 1 4
      ≡ record { ranges = []; fault = Some (record { kind = 31; offset = 2 }) }
  pub at : part_of (codes "a") (codes "aa" ++ 0xFF ∷ codes "aa") 1 2
      ≡ record { ranges = []; fault = Some (record { kind = 31; offset = 2 }) }
  pub together : answer_in_parts (worked_sought (codes "a")) (codes "a") (codes "aa" ++ 0xFF ∷ codes "aa") 0 (1 ∷ 4 ∷ [])
      ≡ record { ranges = (0, 1) ∷ []; fault = Some (record { kind = 31; offset = 2 }) }
