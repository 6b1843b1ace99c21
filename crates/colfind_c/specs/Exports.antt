-- What the calls of the library do, over what a handle held before and holds after them.
use Rattle.std.specs.Prelude.{◌≡◌, ◌⊎◌, ◌≢◌, ℕ, ◌<◌, ◌≤◌, ◌==◌, Bool, false, List, [], ◌++◌, length, drop, if◌then◌else◌, Option, None, Some, IfSome, IfErr, Result, Ok, Err, MatchResult}
use Rattle.std.specs.Str.{IsUtf8}
use Rattle.std.specs.Arc.{arc_value}
use Rattle.std.specs.declared.alloc.Global.{Global}
use Rattle.std_alloc.specs.declared.arc.Arc.{Arc}
use Rattle.collation_table.specs.declared.table.Table.{Table}
use Rattle.collation_table.specs.Table.{TableMap}
use Rattle.collation_table.specs.contracts.table.TableWeights.TheImpl.{ghosts as weights}
use Rattle.collation_table.specs.Faults.{tailored_map, tailored_fault, IsFaultOrAllocationRefused}
use Rattle.collation_elements.specs.declared.settings.Strength.{Strength}
use Rattle.collation_elements.specs.declared.settings.Strength.TheVariants.{One, Two, Three}
use Rattle.collation_elements.specs.declared.settings.Variable.{Variable}
use Rattle.collation_elements.specs.declared.settings.Variable.TheVariants.{NonIgnorable, Shifted}
use Rattle.collation_pattern.specs.Compiled.{IsCompiledWith}
use Rattle.collation_pattern.specs.PatternFaults.{pattern_fault}
use Rattle.collation_matches.specs.declared.faults.TextFault.{TextFault}
use Rattle.collation_matches.specs.declared.select.Select.{Select}
use Rattle.collation_matches.specs.declared.select.Select.TheVariants.{All, Chain}
use Rattle.collation_matches.specs.GoodPrefix.{fault, most_bytes}
use Rattle.collation_matches.specs.Sought.{Sought, IsCompiledFrom, answer_to}
use Rattle.collation_matches.specs.Offsets.{answer_from}
use Rattle.collation_anchored.specs.Anchored.{ends}
use Rattle.collation_anchored.specs.Answers.{equal_answer, begins_answer, no_memory}
use Rattle.collation_backward.specs.Backward.{is_fault_before, last_up_to, IsToldBefore, IsNothingBehind}
use Rattle.collation_backward.specs.Ending.{ends_answer}
use Rattle.collation_safe.specs.Safe.{IsSafeOffset}
use Rattle.collation_safe.specs.Found.{IsFoundFrom, IsFoundUpTo}
use Rattle.collation_search.specs.Indexing.{IsFirstOf}
use Rattle.collation_search.specs.Resuming.{IsRefused}
use Rattle.collation_search.specs.State.{sizes_of}
use Rattle.colfind_c.specs.declared.owned.Query.{Query}
use Rattle.colfind_c.specs.declared.owned.Session.{Session}
use Rattle.colfind_c.specs.declared.owned.Owned.{Owned}
use Rattle.colfind_c.specs.declared.owned.Owned.TheVariants.{Table as ATable, Pattern as APattern, Search as ASearch}
use Rattle.colfind_c.specs.declared.outcome.Outcome.{Outcome}
use Rattle.colfind_c.specs.declared.outcome.Outcome.TheVariants.{Good, Table as InTable, Pattern as InPattern, Text, State, NoMemory, WrongHandle, BadArgument, Short}
use Rattle.colfind_c.specs.declared.outcome.Status.{Status}
use Rattle.colfind_c.specs.declared.anchored.Equality.{Equality}
use Rattle.colfind_c.specs.declared.exports.First.{First}
use Rattle.colfind_c.specs.declared.safe.Place.{Place}
use Rattle.colfind_c.specs.declared.queue.Range.{Range}
use Rattle.colfind_c.specs.Queries.{sought_with, table_of}
use Rattle.colfind_c.specs.Queues.{waiting}
use Rattle.colfind_c.specs.Sessions.{sought_of, HasFed, ResumesSession, TakesRanges, SavesSession}
use Rattle.colfind_c.specs.Statuses.{status_of}

-- the status says that the call has ended so
abbrev pub StatusSays : Status → (Outcome → Type 0) → Type 0
StatusSays status C = (outcome : Outcome) × (status ≡ status_of outcome) × C outcome

-- what C gets says that the call has ended so, and what it answers
abbrev pub Tells : {A T : Type 0} → (Outcome → A → T) → T → (Outcome → A → Type 0) → Type 0
Tells {A} told result C = (outcome : Outcome) × (answer : A) × (result ≡ told outcome answer) × C outcome answer

-- 1 and a range, or 0 and zeros
abbrev pub first_of : Outcome → Option (ℕ × ℕ) → First
first_of outcome None = record { status = status_of outcome; is_found = 0; range = record { start = 0; end = 0 } }
first_of outcome (Some range) = record { status = status_of outcome; is_found = 1; range = record { start = range.0; end = range.1 } }

-- 1 for yes and 0 for no
abbrev pub equality_of : Outcome → Bool → Equality
equality_of outcome answer = record { status = status_of outcome; is_equal = if answer then 1 else 0 }

-- 1 and an offset, or 0 and zero
abbrev pub place_of : Outcome → Option ℕ → Place
place_of outcome None = record { status = status_of outcome; is_found = 0; at = 0 }
place_of outcome (Some at) = record { status = status_of outcome; is_found = 1; at = at }

-- ---- which handle a call is for: another one is a wrong handle

abbrev pub OfTable : (Table → Outcome → Type 0) → Option Owned → Outcome → Type 0
OfTable C (Some (ATable t)) outcome = C (arc_value t) outcome
OfTable C other outcome = outcome ≡ WrongHandle

abbrev pub OfPattern : (Query → Outcome → Type 0) → Option Owned → Outcome → Type 0
OfPattern C (Some (APattern q)) outcome = C (arc_value q) outcome
OfPattern C other outcome = outcome ≡ WrongHandle

-- the same of a call that answers something; with a wrong handle it answers `none`
abbrev pub AsksPattern : {A : Type 0} → A → (Query → A → Outcome → Type 0) → Option Owned → A → Outcome → Type 0
AsksPattern none C (Some (APattern q)) answer outcome = C (arc_value q) answer outcome
AsksPattern none C other answer outcome = (outcome ≡ WrongHandle) × (answer ≡ none)

-- the same of the pattern that a handle holds, or for which its search is
abbrev pub AsksQuery : {A : Type 0} → A → (Query → A → Outcome → Type 0) → Option Owned → A → Outcome → Type 0
AsksQuery none C (Some (APattern q)) answer outcome = C (arc_value q) answer outcome
AsksQuery none C (Some (ASearch s)) answer outcome = C (arc_value s.query) answer outcome
AsksQuery none C other answer outcome = (outcome ≡ WrongHandle) × (answer ≡ none)

-- what a handle holds stays; a search may have other room for whole texts
abbrev pub KeepsAll : Option Owned → Option Owned → Type 0
KeepsAll (Some (ASearch old)) after = (new : Session) × (after ≡ Some (ASearch new))
    × (new.query ≡ old.query) × (new.select ≡ old.select) × (new.parked ≡ old.parked) × (new.queue ≡ old.queue)
KeepsAll before after = after ≡ before

-- a search that a handle holds is another one after the call; what else it holds stays
abbrev pub OfSearch : (Session → Outcome → Session → Type 0) → Option Owned → Outcome → Option Owned → Type 0
OfSearch C (Some (ASearch old)) outcome after = (new : Session) × (after ≡ Some (ASearch new)) × C old outcome new
OfSearch C other outcome after = (outcome ≡ WrongHandle) × (after ≡ other)

abbrev pub AsksSearch : {A : Type 0} → A → (Session → A → Outcome → Session → Type 0) → Option Owned → A → Outcome → Option Owned → Type 0
AsksSearch none C (Some (ASearch old)) answer outcome after = (new : Session) × (after ≡ Some (ASearch new)) × C old answer outcome new
AsksSearch none C other answer outcome after = (outcome ≡ WrongHandle) × (answer ≡ none) × (after ≡ other)

-- none was counted, and a buffer is as it was
abbrev pub untouched : {A : Type 0} → List A → ℕ × List A
untouched buffer = (0, buffer)

-- ---- what is shared, given and compiled within a call

-- the table or the pattern that a handle holds, once more
abbrev pub SharesTable : Option Owned → Result (Arc Table Global) Outcome → Type 0
SharesTable (Some (ATable t)) result = MatchResult result (λ shared. arc_value shared ≡ arc_value t) (λ how. how ≡ NoMemory)
SharesTable other result = result ≡ Err WrongHandle

abbrev pub SharesQuery : Option Owned → Result (Arc Query Global) Outcome → Type 0
SharesQuery (Some (APattern q)) result = MatchResult result (λ shared. arc_value shared ≡ arc_value q) (λ how. how ≡ NoMemory)
SharesQuery other result = result ≡ Err WrongHandle

-- a table or a pattern of the same value
abbrev pub IsAnother : Owned → Owned → Type 0
IsAnother (ATable t) (ATable u) = arc_value u ≡ arc_value t
IsAnother (APattern q) (APattern r) = arc_value r ≡ arc_value q
IsAnother owned other = ⊥

-- what a handle holds, once more; a search is not shared
abbrev pub SharesOwned : Option Owned → Result Owned Outcome → Type 0
SharesOwned (Some (ATable t)) result = MatchResult result (IsAnother (ATable t)) (λ how. how ≡ NoMemory)
SharesOwned (Some (APattern q)) result = MatchResult result (IsAnother (APattern q)) (λ how. how ≡ NoMemory)
SharesOwned other result = result ≡ Err WrongHandle

-- a second handle holds what the first one holds, or memory was refused and it is as it was
abbrev pub IsSharedInto : Owned → Outcome → Option Owned → Option Owned → Type 0
IsSharedInto owned Good before (Some other) = IsAnother owned other
IsSharedInto owned NoMemory before after = after ≡ before
IsSharedInto owned _ before after = ⊥

abbrev pub SharesInto : Option Owned → Outcome → Option Owned → Option Owned → Type 0
SharesInto (Some (ATable t)) how before after = IsSharedInto (ATable t) how before after
SharesInto (Some (APattern q)) how before after = IsSharedInto (APattern q) how before after
SharesInto other how before after = (how ≡ WrongHandle) × (after ≡ before)

-- a handle got a value, or memory was refused and it is as it was
abbrev pub IsGiven : Owned → Outcome → Option Owned → Option Owned → Type 0
IsGiven owned Good before after = after ≡ Some owned
IsGiven owned NoMemory before after = after ≡ before
IsGiven owned _ before after = ⊥

abbrev pub GivesTable : Table → Outcome → Option Owned → Option Owned → Type 0
GivesTable table Good before (Some (ATable shared)) = arc_value shared ≡ table
GivesTable table NoMemory before after = after ≡ before
GivesTable table _ before after = ⊥

abbrev pub GivesPattern : Query → Outcome → Option Owned → Option Owned → Type 0
GivesPattern q Good before (Some (APattern shared)) = arc_value shared ≡ q
GivesPattern q NoMemory before after = after ≡ before
GivesPattern q _ before after = ⊥

-- ---- what a call makes

abbrev pub strength_for : ℕ → Option Strength
strength_for n = if n == 1 then Some One else if n == 2 then Some Two else if n == 3 then Some Three else None

abbrev pub variable_for : ℕ → Option Variable
variable_for n = if n == 0 then Some NonIgnorable else if n == 1 then Some Shifted else None

abbrev pub select_for : ℕ → Option Select
select_for n = if n == 0 then Some All else if n == 1 then Some Chain else None

-- a table of these files, or the first fault of them, and then the handle is as it was
abbrev pub MakesTable : List ℕ → List ℕ → Outcome → Option Owned → Option Owned → Type 0
MakesTable base tailor Good before (Some (ATable t)) = weights.table (arc_value t) ≡ tailored_map base tailor
MakesTable base tailor (InTable f) before after = (after ≡ before) × IsFaultOrAllocationRefused (tailored_fault base tailor) f
MakesTable base tailor NoMemory before after = after ≡ before
MakesTable base tailor _ before after = ⊥

-- a pattern that is compiled from this text with this table, or why it is not, and then the handle is as it was
abbrev pub MakesPattern : Table → List ℕ → ℕ → ℕ → Outcome → Option Owned → Option Owned → Type 0
MakesPattern table text strength variable Good before (Some (APattern q)) = (arc_value (arc_value q).table ≡ table) × IsCompiledWith (weights.table table) (arc_value q).pattern text
    × (strength_for strength ≡ Some (arc_value q).pattern.strength) × (variable_for variable ≡ Some (arc_value q).pattern.variable)
MakesPattern table text strength variable (InPattern f) before after = (after ≡ before) × ((s : Strength) → (v : Variable) → strength_for strength ≡ Some s → variable_for variable ≡ Some v
    → f.kind ≢ 24 → pattern_fault (weights.table table) s v text ≡ Some f.kind)
MakesPattern table text strength variable BadArgument before after = (after ≡ before) × ((strength_for strength ≡ None) ⊎ ((variable_for variable ≡ None) ⊎ (IsUtf8 text → ⊥)))
MakesPattern table text strength variable NoMemory before after = after ≡ before
MakesPattern table text strength variable _ before after = ⊥

-- the same before a handle gets it
abbrev pub IsCompiled : Table → List ℕ → ℕ → ℕ → Result Query Outcome → Type 0
IsCompiled table text strength variable (Ok q) = (arc_value q.table ≡ table) × IsCompiledWith (weights.table table) q.pattern text
    × (strength_for strength ≡ Some q.pattern.strength) × (variable_for variable ≡ Some q.pattern.variable)
IsCompiled table text strength variable (Err how) = MakesPattern table text strength variable how None None

-- a search at the beginning of a text
abbrev pub StartsSearch : Query → ℕ → Outcome → Option Owned → Option Owned → Type 0
StartsSearch q select Good before (Some (ASearch s)) = HasFed s [] [] × (sought_of s ≡ sought_with q s.select) × (select_for select ≡ Some s.select)
StartsSearch q select BadArgument before after = (after ≡ before) × (select_for select ≡ None)
StartsSearch q select NoMemory before after = after ≡ before
StartsSearch q select _ before after = ⊥

-- a search that goes on from words, or the first test that they fail
abbrev pub GoesOnFrom : Query → ℕ → List ℕ → Outcome → Option Owned → Option Owned → Type 0
GoesOnFrom q select words Good before (Some (ASearch s)) = ResumesSession (sought_with q s.select) words s × (select_for select ≡ Some s.select)
GoesOnFrom q select words (State f) before after = (after ≡ before) × ((s : Select) → select_for select ≡ Some s → IsRefused (sizes_of (sought_with q s)) words f.kind)
GoesOnFrom q select words BadArgument before after = (after ≡ before) × (select_for select ≡ None)
GoesOnFrom q select words NoMemory before after = after ≡ before
GoesOnFrom q select words _ before after = ⊥

-- ---- what a call answers

-- the first range of a text, with the fault that stands before it or where there is none
abbrev pub AnswersFirst : Query → List ℕ → Option (ℕ × ℕ) → Outcome → Type 0
AnswersFirst q text range Good = (p : List ℕ) → IsCompiledFrom (sought_with q All) p → IsFirstOf (answer_to (sought_with q All) p text) (Ok range)
AnswersFirst q text range (Text f) = (range ≡ None) × ((p : List ℕ) → IsCompiledFrom (sought_with q All) p → IsFirstOf (answer_to (sought_with q All) p text) (Err f))
AnswersFirst q text range NoMemory = range ≡ None
AnswersFirst q text range _ = ⊥

-- the same of what stands from an offset on, which is not behind the text
abbrev pub AnswersFirstFrom : Query → List ℕ → ℕ → Option (ℕ × ℕ) → Outcome → Type 0
AnswersFirstFrom q text from range Good = (from ≤ length text)
    × ((p : List ℕ) → IsCompiledFrom (sought_with q All) p → IsFirstOf (answer_from (sought_with q All) p text from) (Ok range))
AnswersFirstFrom q text from range (Text f) = (from ≤ length text) × (range ≡ None)
    × ((p : List ℕ) → IsCompiledFrom (sought_with q All) p → IsFirstOf (answer_from (sought_with q All) p text from) (Err f))
AnswersFirstFrom q text from range BadArgument = (length text < from) × (range ≡ None)
AnswersFirstFrom q text from range NoMemory = range ≡ None
AnswersFirstFrom q text from range _ = ⊥

-- one number for all: 1 where there is a range, 0 where there is none, else the number of the fault
abbrev pub number_of : Option (ℕ × ℕ) → Outcome → ℕ
number_of (Some range) how = 1
number_of None how = (status_of how).kind

-- ---- of a text from its beginning

-- whether a whole text is a match, or the fault that stands before that is decided, unless memory was refused
abbrev pub IsEqualTo : Query → List ℕ → Result Bool TextFault → Type 0
IsEqualTo q text result = (p : List ℕ) → IsCompiledWith (table_of q) q.pattern p → (result ≡ Err no_memory) ⊎ (result ≡ equal_answer (table_of q) q.pattern p text)

abbrev pub AnswersEqual : Query → List ℕ → Bool → Outcome → Type 0
AnswersEqual q text answer Good = IsEqualTo q text (Ok answer)
AnswersEqual q text answer (Text f) = (answer ≡ false) × IsEqualTo q text (Err f)
AnswersEqual q text answer _ = ⊥

-- the same of where the least match ends that begins where the text begins
abbrev pub IsBegunBy : Query → List ℕ → Result (Option ℕ) TextFault → Type 0
IsBegunBy q text result = (p : List ℕ) → IsCompiledWith (table_of q) q.pattern p → (result ≡ Err no_memory) ⊎ (result ≡ begins_answer (table_of q) q.pattern p text)

-- the range from the beginning of the text to there
abbrev pub up_to : Option ℕ → Option (ℕ × ℕ)
up_to None = None
up_to (Some end) = Some (0, end)

abbrev pub AnswersBegins : Query → List ℕ → Option (ℕ × ℕ) → Outcome → Type 0
AnswersBegins q text range Good = (end : Option ℕ) × (range ≡ up_to end) × IsBegunBy q text (Ok end)
AnswersBegins q text range (Text f) = (range ≡ None) × IsBegunBy q text (Err f)
AnswersBegins q text range _ = ⊥

-- ---- of a text going back

-- What is told is what going back from an offset meets first, a range or a fault (`last_before` of `collation_backward`), unless memory was
-- refused.
--   good: where no fault stands before the offset, it is the last range that ends there or before it
--   told: it is what the rest of the text from a safe offset on says; that there is none is said by the whole text
--   behind: from each safe offset behind a fault that is told the rest says that there is none
pub record IsLastBefore (s : Sought) (text : List ℕ) (at : ℕ) (result : Result (Option (ℕ × ℕ)) TextFault) : Type 0 where
  pub good : (p : List ℕ) → IsCompiledFrom s p → length text ≤ most_bytes → is_fault_before at (fault text) ≡ false
      → (result ≡ Err no_memory) ⊎ (result ≡ Ok (last_up_to at (answer_to s p text).ranges))
  pub told : (p : List ℕ) → IsCompiledFrom s p → (result ≡ Err no_memory) ⊎ IsToldBefore s p text at result
  pub behind : (p : List ℕ) → IsCompiledFrom s p → length text ≤ most_bytes
      → (result ≡ Err no_memory) ⊎ IfErr result (IsNothingBehind s p text at)

abbrev pub AnswersLastBefore : Query → List ℕ → ℕ → Option (ℕ × ℕ) → Outcome → Type 0
AnswersLastBefore q text at range Good = IsLastBefore (sought_with q All) text at (Ok range)
AnswersLastBefore q text at range (Text f) = (range ≡ None) × IsLastBefore (sought_with q All) text at (Err f)
AnswersLastBefore q text at range NoMemory = range ≡ None
AnswersLastBefore q text at range _ = ⊥

-- What is told is where the shortest match begins that ends where the text ends, unless memory was refused: of a text without a fault, and of
-- any other what stands behind its last fault says, or that fault (`ends_answer` of `collation_backward`).
pub record IsEndedBy (s : Sought) (text : List ℕ) (result : Result (Option ℕ) TextFault) : Type 0 where
  pub good : (p : List ℕ) → IsCompiledFrom s p → fault text ≡ None
      → (result ≡ Err no_memory) ⊎ (result ≡ Ok (ends s.table s.pattern.strength s.pattern.variable p text))
  pub answer : (p : List ℕ) → IsCompiledFrom s p → length text ≤ most_bytes
      → (result ≡ Err no_memory) ⊎ (result ≡ ends_answer s.table s.pattern p text)

-- the range from there to an offset
abbrev pub up_from : ℕ → Option ℕ → Option (ℕ × ℕ)
up_from end None = None
up_from end (Some start) = Some (start, end)

abbrev pub AnswersEnds : Query → List ℕ → Option (ℕ × ℕ) → Outcome → Type 0
AnswersEnds q text range Good = (start : Option ℕ) × (range ≡ up_from (length text) start) × IsEndedBy (sought_with q All) text (Ok start)
AnswersEnds q text range (Text f) = (range ≡ None) × IsEndedBy (sought_with q All) text (Err f)
AnswersEnds q text range NoMemory = range ≡ None
AnswersEnds q text range _ = ⊥

-- ---- safe offsets

-- the table that a handle holds, or with which its pattern was compiled, or that of its search
abbrev pub table_under : Owned → TableMap
table_under (ATable t) = weights.table (arc_value t)
table_under (APattern q) = table_of (arc_value q)
table_under (ASearch s) = table_of (arc_value s.query)

-- What was found is safe, and from the offset on; it is the nearest safe offset, and none is found only where there is none.
pub record IsNextSafe (table : TableMap) (bytes : List ℕ) (from : ℕ) (found : Option ℕ) : Type 0 where
  pub safe : IfSome found (λ at. IsSafeOffset table bytes at)
  pub behind : IfSome found (λ at. from ≤ at)
  pub nearest : (at : ℕ) → from ≤ at → IsSafeOffset table bytes at → IsFoundUpTo at found

abbrev pub AnswersNextSafe : Option Owned → List ℕ → ℕ → Option ℕ → Outcome → Type 0
AnswersNextSafe (Some owned) bytes from found outcome = (outcome ≡ Good) × IsNextSafe (table_under owned) bytes from found
AnswersNextSafe None bytes from found outcome = (outcome ≡ WrongHandle) × (found ≡ None)

-- the same before an offset
pub record IsPreviousSafe (table : TableMap) (bytes : List ℕ) (before : ℕ) (found : Option ℕ) : Type 0 where
  pub safe : IfSome found (λ at. IsSafeOffset table bytes at)
  pub earlier : IfSome found (λ at. at < before)
  pub nearest : (at : ℕ) → at < before → IsSafeOffset table bytes at → IsFoundFrom at found

abbrev pub AnswersPreviousSafe : Option Owned → List ℕ → ℕ → Option ℕ → Outcome → Type 0
AnswersPreviousSafe (Some owned) bytes before found outcome = (outcome ≡ Good) × IsPreviousSafe (table_under owned) bytes before found
AnswersPreviousSafe None bytes before found outcome = (outcome ≡ WrongHandle) × (found ≡ None)

-- how many ranges wait
abbrev pub pending : Option Owned → ℕ
pending (Some (ASearch s)) = length (waiting s.queue)
pending other = 0

-- the oldest ranges go to the buffer; a handle that holds no search has none
abbrev pub TakesOldest : Option Owned → ℕ → ℕ → List Range → Option Owned → Type 0
TakesOldest (Some (ASearch old)) room count out after = (new : Session) × (after ≡ Some (ASearch new)) × TakesRanges old room count out new
TakesOldest other room count out after = (count ≡ 0) × (after ≡ other)

-- the words go to the front of the buffer, which is else as it was; where they have no room none of it changes
abbrev pub Writes : List ℕ → List ℕ → List ℕ → Outcome → ℕ → Type 0
Writes before words after Good count = (after ≡ words ++ drop (length words) before) × (count ≡ length words)
Writes before words after (Short n) count = (after ≡ before) × (n ≡ length words) × (count ≡ length words)
Writes before words after _ count = (after ≡ before) × (count ≡ 0)

-- what became of a search that was saved: where its words have no room it is saved all the same, and stays as it was
abbrev pub saving : Outcome → Outcome
saving (Short n) = Good
saving outcome = outcome

pub record SavesInto (before after : List ℕ) (count : ℕ) (old : Session) (outcome : Outcome) (new : Session) : Type 0 where
  pub words : List ℕ
  pub saved : SavesSession old (saving outcome) words new
  pub written : Writes before words after outcome count
