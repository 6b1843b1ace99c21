-- Laws of points and of their faults, which the functions of src/laws.rt promise.
use Rattle.std.specs.Prelude.{◌≡◌, ℕ, ◌+◌, ◌<◌, ◌≤◌, Bool, true, false, List, [], ◌∷◌, ◌++◌, length, map, flat_map, encode_utf8_all, Some, None, All, Contains}
use Rattle.std.specs.Char.{IsScalar}
use Rattle.std.specs.List.{list_all}
use Rattle.unicode_normalization.specs.Forms.{nfd}
use Rattle.unicode_normalization.specs.Lookups.{canonical_combining_class}
use Rattle.unicode_normalization.specs.StreamSafe.{has_short_runs}
use Rattle.nfd_points.specs.declared.limits.TheConstants.{MOST_WAITING, MOST_DECOMPOSITION, MOST_GIVEN}
use Rattle.nfd_points.specs.declared.points.Point.{Point}
use Rattle.nfd_points.specs.Points.{ascii_point, decomposition, byte_len, points_of, points_from, points, is_starter, begins_with_starter, is_in_order, ordered, shifted}
use Rattle.nfd_points.specs.PointFaults.{run_after, fault_of_code_point, fault_from, point_fault}
use Rattle.nfd_points.specs.Reordering.{Waiting, code_points, is_closed, IsSoundPoint, HasReordered, up_to_last_starter}

-- ---- numbers of points

pub record Limits : Type 0 where
  pub waiting : MOST_WAITING ≡ 30
  pub decomposition : MOST_DECOMPOSITION ≡ 4
  pub given : MOST_GIVEN ≡ MOST_WAITING + MOST_DECOMPOSITION

-- ---- decompositions

-- UAX #15 has 4 as the greatest expansion
abbrev pub DecompositionsAreShort : Type 0
DecompositionsAreShort = (c : ℕ) → (1 ≤ length (decomposition c)) × (length (decomposition c) ≤ MOST_DECOMPOSITION)

abbrev pub OthersAreStarters : Type 0
OthersAreStarters = (c : ℕ) → ¬ (IsScalar c) → (decomposition c ≡ c ∷ []) × (canonical_combining_class c ≡ 0)

abbrev pub AsciiIsItself : Type 0
AsciiIsItself = (start c : ℕ) → c < 128 → points_of start c ≡ ascii_point start c ∷ []

abbrev pub DecompositionsAreInOrder : Type 0
DecompositionsAreInOrder = (start c : ℕ) → is_in_order (points_of start c) ≡ true

-- ---- points

abbrev pub CodesAreNfd : Type 0
CodesAreNfd = (cs : List ℕ) → code_points (points cs) ≡ nfd cs

abbrev pub PointsAreSound : Type 0
PointsAreSound = (cs : List ℕ) → All IsScalar cs → All IsSoundPoint (points cs)

-- each code point of a text's points is its own decomposition
abbrev pub PointsAreDecomposed : Type 0
PointsAreDecomposed = (cs : List ℕ) → All (λ p. decomposition p.cp ≡ p.cp ∷ []) (points cs)

-- ASCII is of class 0
abbrev pub AsciiIsSound : Type 0
AsciiIsSound = (start c : ℕ) → c < 128 → IsSoundPoint (ascii_point start c)

abbrev pub BytesAreCounted : Type 0
BytesAreCounted = (cs : List ℕ) → byte_len cs ≡ length (encode_utf8_all cs)

abbrev pub BytesOfParts : Type 0
BytesOfParts = (xs ys : List ℕ) → byte_len (xs ++ ys) ≡ byte_len xs + byte_len ys

abbrev pub PointsOfParts : Type 0
PointsOfParts = (start : ℕ) (xs ys : List ℕ) → points_from start (xs ++ ys) ≡ points_from start xs ++ points_from (start + byte_len xs) ys

abbrev pub PointsAreShifted : Type 0
PointsAreShifted = (by start : ℕ) (cs : List ℕ) → points_from (by + start) cs ≡ map (shifted by) (points_from start cs)

-- each point comes from a code point that begins within the bytes of the text
abbrev pub OffsetsAreWithin : Type 0
OffsetsAreWithin = (cs : List ℕ) → All (λ p. p.offset < byte_len cs) (points cs)

-- where the second text begins with a starter, its points are its own, after the bytes of the first
abbrev pub TextsPart : Type 0
TextsPart =
    (xs ys : List ℕ) → begins_with_starter (points_from 0 ys) ≡ true → points (xs ++ ys) ≡ points xs ++ map (shifted (byte_len xs)) (points ys)

-- a text that is cut before the code point of the point s: the points before s are those of the first part, and s and those
-- after it are those of the second one
pub record IsTextCut (cs : List ℕ) (prefix : List Point) (s : Point) (later : List Point) : Type 0 where
  pub before : List ℕ
  pub c : ℕ
  pub following : List ℕ
  pub text : cs ≡ before ++ c ∷ following
  pub points_before : points before ≡ prefix
  pub points_after : map (shifted (byte_len before)) (points (c ∷ following)) ≡ s ∷ later
  pub offset : s.offset ≡ byte_len before

-- a point that is a starter, and the first of its code point's decomposition, cuts the text
abbrev pub TextsAreCut : Type 0
TextsAreCut =
    (cs : List ℕ) (prefix : List Point) (s : Point) (later : List Point) → is_starter s ≡ true → s.first ≡ true → points cs ≡ prefix ++ s ∷ later → IsTextCut cs prefix s later

-- ---- canonical ordering

abbrev pub OrderingIsInOrder : Type 0
OrderingIsInOrder = (ps : List Point) → is_in_order (ordered ps) ≡ true

abbrev pub OrderedStays : Type 0
OrderedStays = (ps : List Point) → is_in_order ps ≡ true → ordered ps ≡ ps

-- a prefix may be put in order first
abbrev pub OrderingOfPrefixes : Type 0
OrderingOfPrefixes = (xs ys : List Point) → ordered (ordered xs ++ ys) ≡ ordered (xs ++ ys)

abbrev pub OrderingStopsAtStarters : Type 0
OrderingStopsAtStarters = (xs ys : List Point) → begins_with_starter ys ≡ true → ordered (xs ++ ys) ≡ ordered xs ++ ordered ys

abbrev pub OrderingIsShifted : Type 0
OrderingIsShifted = (by : ℕ) (ps : List Point) → ordered (map (shifted by) ps) ≡ map (shifted by) (ordered ps)

abbrev pub OrderingKeeps : Type 0
OrderingKeeps = (test : Point → Bool) (ps : List Point) → list_all test ps ≡ true → list_all test (ordered ps) ≡ true

-- each of the points in order was there before
abbrev pub OrderingAddsNone : Type 0
OrderingAddsNone = (ps : List Point) → All (Contains ps) (ordered ps)

abbrev pub OrderingCounts : Type 0
OrderingCounts = (ps : List Point) → length (ordered ps) ≡ length ps

-- points that a starter s cuts into two parts, which are put in order apart
abbrev pub IsCut : List Point → List Point → Point → List Point → Type 0
IsCut ps before s following =
    (xs : List Point) × (ys : List Point) × (ps ≡ xs ++ s ∷ ys) × (ordered xs ≡ before) × (ordered ys ≡ following)

-- a starter among ordered points stood there before they were put in order
abbrev pub StartersStay : Type 0
StartersStay =
    (ps before : List Point) (s : Point) (following : List Point) → is_starter s ≡ true → ordered ps ≡ before ++ s ∷ following → IsCut ps before s following

-- ---- runs of non-starters

-- after points that end in a starter a run begins anew
abbrev pub ShortRunsJoin : Type 0
ShortRunsJoin =
    (xs ys : List Point) → All IsSoundPoint xs → is_closed xs ≡ true → has_short_runs 0 (code_points xs) ≡ true → has_short_runs 0 (code_points ys) ≡ true → has_short_runs 0 (code_points (xs ++ ys)) ≡ true

-- ---- faults

-- after a prefix without a fault, the first fault is that of the rest
abbrev pub FaultAfter : Type 0
FaultAfter =
    (start run : ℕ) (xs ys : List ℕ) → fault_from start run xs ≡ None → fault_from start run (xs ++ ys) ≡ fault_from (start + byte_len xs) (run_after run (flat_map decomposition xs)) ys

-- the fault of a prefix is the first fault of the whole
abbrev pub FaultInPrefix : Type 0
FaultInPrefix =
    (start run : ℕ) (xs ys : List ℕ) (fault : ℕ × ℕ) → fault_from start run xs ≡ Some fault → fault_from start run (xs ++ ys) ≡ Some fault

-- 33 stands nowhere
abbrev pub FaultsAreRuns : Type 0
FaultsAreRuns = (run c kind : ℕ) → fault_of_code_point run c ≡ Some kind → kind ≡ 32

-- where there is no fault, no more than 30 non-starters follow each other
abbrev pub GoodRunsAreShort : Type 0
GoodRunsAreShort = (cs : List ℕ) → point_fault cs ≡ None → has_short_runs 0 (code_points (points cs)) ≡ true

-- and where no more than 30 non-starters follow each other in the joined decompositions, there is no fault
abbrev pub ShortRunsAreGood : Type 0
ShortRunsAreGood = (cs : List ℕ) → has_short_runs 0 (flat_map decomposition cs) ≡ true → point_fault cs ≡ None

-- a text of no more points than may wait has no fault
abbrev pub FewPointsAreGood : Type 0
FewPointsAreGood = (cs : List ℕ) → length (flat_map decomposition cs) ≤ MOST_WAITING → point_fault cs ≡ None

-- where the second text begins with a starter, its runs are its own
abbrev pub StartersBeginAnew : Type 0
StartersBeginAnew =
    (xs ys : List ℕ) → begins_with_starter (points_from 0 ys) ≡ true → point_fault xs ≡ None → point_fault ys ≡ None → point_fault (xs ++ ys) ≡ None

-- the fault is at the first code point whose decomposition, joined to those before it, brings a longer run
abbrev pub LongRunsAreFaults : Type 0
LongRunsAreFaults =
    (before after : List ℕ) (c : ℕ) → has_short_runs 0 (flat_map decomposition before) ≡ true → has_short_runs 0 (flat_map decomposition (before ++ c ∷ [])) ≡ false → point_fault (before ++ c ∷ after) ≡ Some (byte_len before, 32)

-- ---- what a reorderer has given

-- the points up to the last starter so far, and however the text goes on, a beginning of its points
abbrev pub GivenAreFinal : Type 0
GivenAreFinal =
    (w : Waiting) (taken : List ℕ) (given : List Point) → HasReordered w taken given → given ≡ up_to_last_starter (points taken)

abbrev pub GivenBegin : Type 0
GivenBegin =
    (w : Waiting) (taken rest : List ℕ) (given : List Point) → HasReordered w taken given → (later : List Point) × (points (taken ++ rest) ≡ given ++ later)

-- those that wait are the other points so far
abbrev pub WaitingAreOthers : Type 0
WaitingAreOthers =
    (w : Waiting) (taken : List ℕ) (given : List Point) → HasReordered w taken given → points taken ≡ given ++ w.held

-- where none waits, a code point below 80 hex is given as it is, and none waits then
abbrev pub AsciiIsGiven : Type 0
AsciiIsGiven =
    (w : Waiting) (taken : List ℕ) (given : List Point) (c : ℕ) → HasReordered w taken given → w.held ≡ [] → c < 128 → HasReordered w (taken ++ c ∷ []) (given ++ ascii_point (byte_len taken) c ∷ [])
