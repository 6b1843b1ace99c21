-- What a search of the library has done with a text.
use Rattle.std.specs.Prelude.{◌≡◌, ◌⊎◌, ℕ, ◌<◌, ◌≤◌, List, [], ◌++◌, take, length, min, IsSome, false, Some, None, Option, Ok, Err}
use Rattle.std.specs.Arc.{arc_value}
use Rattle.collation_table.specs.declared.table.Table.{Table}
use Rattle.collation_table.specs.contracts.table.TableWeights.TheImpl.{ghosts as weights}
use Rattle.collation_matches.specs.declared.faults.TextFault.{TextFault}
use Rattle.collation_matches.specs.Sought.{Sought, IsCompiledFrom, answer_to, settled_in}
use Rattle.collation_matches.specs.GoodPrefix.{whole}
use Rattle.collation_search.specs.declared.parking.Parked.{Parked}
use Rattle.collation_search.specs.declared.search.Search.{Search}
use Rattle.collation_search.specs.Parking.{HasParked, parked_fault, parked_words}
use Rattle.collation_search.specs.Resuming.{AreSaved, AreSavedAfter}
use Rattle.collation_search.specs.Saving.{HasRecords, most_records}
use Rattle.collation_search.specs.State.{sizes_of}
use Rattle.collation_states.specs.StateTests.{state_fault}
use Rattle.collation_matches.specs.Answer.{Answer}
use Rattle.collation_parts.specs.Parts.{part_answer}
use Rattle.colfind_c.specs.declared.owned.Session.{Session}
use Rattle.colfind_c.specs.declared.outcome.Outcome.{Outcome}
use Rattle.colfind_c.specs.declared.outcome.Outcome.TheVariants.{Good, Text, NoMemory, Partly, Ended, Short, State, BadArgument}
use Rattle.colfind_c.specs.Queries.{sought_with}
use Rattle.colfind_c.specs.declared.queue.Range.{Range}
use Rattle.colfind_c.specs.Parkings.{IsFirstFrom}
use Rattle.colfind_c.specs.Queues.{pairs, waiting}

abbrev pub sought_of : Session → Sought
sought_of s = sought_with (arc_value s.query) s.select

-- The bytes went in, and C has taken the ranges: those that wait come after them.
pub record HasFed (s : Session) (bytes : List ℕ) (given : List (ℕ × ℕ)) : Type 0 where
  pub parked : Parked
  pub held : s.parked ≡ Some parked
  pub kept : s.queue.lost ≡ false
  pub stands : HasParked (sought_of s) parked bytes (given ++ waiting s.queue)

-- the search has reported this fault
abbrev pub HasMet : Session → TextFault → Type 0
HasMet s f = (parked : Parked) × (s.parked ≡ Some parked) × (parked_fault parked ≡ Some f)

-- a fault that was met stays met
abbrev pub KeepsMet : Session → Session → Type 0
KeepsMet old new = (f : TextFault) → HasMet old f → HasMet new f

-- all that was fed and given stays, or the fault that was met
pub record KeepsFed (old new : Session) : Type 0 where
  pub fed : (u : List ℕ) (given : List (ℕ × ℕ)) → HasFed old u given → HasFed new u given
  pub met : KeepsMet old new

-- the ranges that were given and those that wait are this answer to the bytes, whatever the search was fed before `piece`
abbrev pub IsAnswered : Session → List ℕ → Option TextFault → Session → Type 0
IsAnswered old piece fault new = (text u : List ℕ) (given : List (ℕ × ℕ)) → IsCompiledFrom (sought_of old) text → HasFed old u given
    → answer_to (sought_of old) text (u ++ piece) ≡ record { ranges = given ++ waiting new.queue; fault = fault }

-- the search had ended, and all is as it was
abbrev pub HadEnded : Session → Session → Type 0
HadEnded old new = (old.parked ≡ None) × (new ≡ old)

-- The search has ended, for the words of which it was resumed are no saved search: no text brings it about.
abbrev pub HadNoText : Session → ℕ → Session → Type 0
HadNoText old kind new = (kind ≡ 51) × (new.parked ≡ None)
    × ((text u : List ℕ) (given : List (ℕ × ℕ)) → IsCompiledFrom (sought_of old) text → HasFed old u given → ⊥)

-- How a piece was taken: with a fault the ranges are all of the answer, whatever follows; where memory was refused the first
-- n bytes of the piece are taken, and the call can be made again with the others.
abbrev pub IsFed : Session → List ℕ → Outcome → Session → Type 0
IsFed old piece Good new = (u : List ℕ) (given : List (ℕ × ℕ)) → HasFed old u given → HasFed new (u ++ piece) given
IsFed old piece (Text f) new = (more : List ℕ) → IsAnswered old (piece ++ more) (Some f) new
IsFed old piece (Partly n) new = (u : List ℕ) (given : List (ℕ × ℕ)) → HasFed old u given → HasFed new (u ++ take n piece) given
IsFed old piece Ended new = HadEnded old new
IsFed old piece (State f) new = HadNoText old f.kind new
IsFed old piece _ new = ⊥

-- How a text was ended: the ranges are all of its answer.
abbrev pub IsFinished : Session → Outcome → Session → Type 0
IsFinished old Good new = (new.parked ≡ None) × IsAnswered old [] None new
IsFinished old (Text f) new = (new.parked ≡ None) × IsAnswered old [] (Some f) new
IsFinished old NoMemory new = KeepsFed old new
IsFinished old Ended new = HadEnded old new
IsFinished old _ new = ⊥

-- How a text was given up: the ranges are the settled ones of its whole characters.
abbrev pub IsStopped : Session → Outcome → Session → Type 0
IsStopped old Good new = (new.parked ≡ None) × ((text u : List ℕ) (given : List (ℕ × ℕ)) → IsCompiledFrom (sought_of old) text → HasFed old u given
    → given ++ waiting new.queue ≡ settled_in (sought_of old) text (whole u))
IsStopped old NoMemory new = KeepsFed old new
IsStopped old Ended new = HadEnded old new
IsStopped old _ new = ⊥

-- How a search was saved: it is as it was, and the words are its own.
abbrev pub IsSaved : Session → Outcome → List ℕ → Session → Type 0
IsSaved old Good words new = ((parked : Parked) → old.parked ≡ Some parked → words ≡ parked_words (sought_of old) parked) × KeepsFed old new
IsSaved old NoMemory words new = KeepsFed old new
IsSaved old Ended words new = HadEnded old new
IsSaved old _ words new = ⊥

-- ---- after a fault

-- the fault is reported once more, unless memory was refused, and then nothing was taken
abbrev pub TellsAgain : TextFault → Outcome → Type 0
TellsAgain f (Text g) = g ≡ f
TellsAgain f (Partly n) = n ≡ 0
TellsAgain f NoMemory = Unit {0}
TellsAgain f _ = ⊥

-- a fault that is reported is one that the search has met from then on
abbrev pub MeetsFault : Outcome → Session → Type 0
MeetsFault (Text f) new = HasMet new f
MeetsFault _ new = Unit {0}

-- so many records of four words at most, as the pattern has keys and the longest mapped string code points, and 35 or 36 more
abbrev pub AreFew : Session → Outcome → List ℕ → Type 0
AreFew old Good words = HasRecords words (most_records (sought_of old))
AreFew old _ words = Unit {0}

-- The call did so, and what is looked for is the same. A fault that was met is told again, and stays met: no range is found.
pub record FeedsSession (old : Session) (piece : List ℕ) (outcome : Outcome) (new : Session) : Type 0 where
  pub fed : IsFed old piece outcome new
  pub again : (f : TextFault) → HasMet old f → TellsAgain f outcome × HasMet new f × (waiting new.queue ≡ waiting old.queue)
  pub met : MeetsFault outcome new
  pub same : sought_of new ≡ sought_of old

pub record FinishesSession (old : Session) (outcome : Outcome) (new : Session) : Type 0 where
  pub finished : IsFinished old outcome new
  pub again : (f : TextFault) → HasMet old f → TellsAgain f outcome × (waiting new.queue ≡ waiting old.queue)
  pub same : sought_of new ≡ sought_of old

-- After a fault that was met nothing more is handed out.
pub record StopsSession (old : Session) (outcome : Outcome) (new : Session) : Type 0 where
  pub stopped : IsStopped old outcome new
  pub again : (f : TextFault) → HasMet old f → waiting new.queue ≡ waiting old.queue
  pub same : sought_of new ≡ sought_of old

-- The words are few, whatever the search was fed.
pub record SavesSession (old : Session) (outcome : Outcome) (words : List ℕ) (new : Session) : Type 0 where
  pub saved : IsSaved old outcome words new
  pub few : AreFew old outcome words
  pub same : sought_of new ≡ sought_of old

-- A part of a piece, before which so many bytes of the piece were taken: a refusal leaves all as it was.
abbrev pub IsPartFed : Session → List ℕ → ℕ → Outcome → Session → Type 0
IsPartFed old part before Good new = IsSome new.parked × IsFed old part Good new
IsPartFed old part before (Text f) new = IsFed old part (Text f) new
IsPartFed old part before (Partly n) new = (n ≡ before) × KeepsFed old new
IsPartFed old part before (State f) new = HadNoText old f.kind new
IsPartFed old part before _ new = ⊥

-- the same of a part: where memory was refused, what stood before it was taken
abbrev pub IsToldAgain : TextFault → ℕ → Outcome → Type 0
IsToldAgain f before (Text g) = g ≡ f
IsToldAgain f before (Partly n) = n ≡ before
IsToldAgain f before _ = ⊥

pub record FeedsPart (old : Session) (part : List ℕ) (before : ℕ) (outcome : Outcome) (new : Session) : Type 0 where
  pub fed : IsPartFed old part before outcome new
  pub again : (f : TextFault) → HasMet old f → IsToldAgain f before outcome × HasMet new f × (waiting new.queue ≡ waiting old.queue)
  pub met : MeetsFault outcome new
  pub same : sought_of new ≡ sought_of old

-- The search goes on from the words, which pass the tests of a state: it has done what any search had done of which they were saved, and
-- has met the fault that any search had reported of which they were.
pub record ResumesSession (s : Sought) (words : List ℕ) (new : Session) : Type 0 where
  pub accepted : state_fault (sizes_of s) words ≡ None
  pub stands : (saved : Search Table weights) (u : List ℕ) (handed : List (ℕ × ℕ)) → AreSaved saved s words u handed → HasFed new u handed
  pub reported : (saved : Search Table weights) (f : TextFault) → AreSavedAfter saved s words f → HasMet new f
  pub same : sought_of new ≡ s

-- The search is at the beginning of a text; ranges that wait are not of this text.
pub record IsAtBeginning (s : Session) : Type 0 where
  pub parked : Parked
  pub held : s.parked ≡ Some parked
  pub kept : s.queue.lost ≡ false
  pub stands : HasParked (sought_of s) parked [] []

-- the search is at the beginning of a text, and no range waits
abbrev pub HasBegunAgain : Session → Type 0
HasBegunAgain new = HasFed new [] [] × (waiting new.queue ≡ [])

-- The oldest ranges that wait were taken, as many as there is room for. They are given from now on, and the others wait. A fault that was
-- met stays met. A search at the beginning of a text stays there, and has begun again once no range waits.
pub record TakesRanges (old : Session) (room : ℕ) (count : ℕ) (out : List Range) (new : Session) : Type 0 where
  pub most : count ≡ min room (length (waiting old.queue))
  pub oldest : waiting old.queue ≡ pairs (take count out) ++ waiting new.queue
  pub given : (u : List ℕ) (given : List (ℕ × ℕ)) → HasFed old u given → HasFed new u (given ++ pairs (take count out))
  pub met : KeepsMet old new
  pub begins : IsAtBeginning old → IsAtBeginning new × (waiting new.queue ≡ [] → HasBegunAgain new)
  pub same : sought_of new ≡ sought_of old

-- The first range of what stands in a text from an offset on, or the fault before it; an offset behind the text is none.
abbrev pub IsFirstIn : Session → List ℕ → ℕ → Option (ℕ × ℕ) → Outcome → Session → Type 0
IsFirstIn old text from range Good new = (from ≤ length text) × HasBegunAgain new
    × ((p : List ℕ) → IsCompiledFrom (sought_of old) p → IsFirstFrom (sought_of old) p text from (Ok range))
IsFirstIn old text from range (Text f) new = (from ≤ length text) × HasBegunAgain new × (range ≡ None)
    × ((p : List ℕ) → IsCompiledFrom (sought_of old) p → IsFirstFrom (sought_of old) p text from (Err f))
IsFirstIn old text from range Ended new = (range ≡ None) × HadEnded old new
IsFirstIn old text from range BadArgument new = (range ≡ None) × (length text < from) × (new ≡ old)
IsFirstIn old text from range _ new = ⊥

-- a search that had ended stays as it was
abbrev pub StaysEnded : Session → Session → Type 0
StaysEnded old new = old.parked ≡ None → new ≡ old

pub record FirstInSession (old : Session) (text : List ℕ) (from : ℕ) (range : Option (ℕ × ℕ)) (outcome : Outcome) (new : Session) : Type 0 where
  pub first : IsFirstIn old text from range outcome new
  pub ended : StaysEnded old new
  pub same : sought_of new ≡ sought_of old

-- ---- a part of a text

-- the ranges that wait, with this fault, are what the part of a text between two offsets has; the search is at the beginning of another text
abbrev pub HasPart : Session → List ℕ → ℕ → ℕ → Option TextFault → Session → Type 0
HasPart old text from to fault new = IsAtBeginning new × ((p : List ℕ) → IsCompiledFrom (sought_of old) p
    → part_answer (sought_of old) p text from to ≡ record { ranges = waiting new.queue; fault = fault })

-- a part begins within the text, or at its end, and does not end before it begins
abbrev pub IsPartOf : ℕ → ℕ → List ℕ → Type 0
IsPartOf from to text = (from ≤ to) × (from ≤ length text)

-- What the part has, or that there is no such part.
abbrev pub IsPartIn : Session → List ℕ → ℕ → ℕ → Outcome → Session → Type 0
IsPartIn old text from to Good new = IsPartOf from to text × HasPart old text from to None new
IsPartIn old text from to (Text f) new = IsPartOf from to text × HasPart old text from to (Some f) new
IsPartIn old text from to NoMemory new = IsPartOf from to text × HasBegunAgain new
IsPartIn old text from to Ended new = HadEnded old new
IsPartIn old text from to BadArgument new = ((to < from) ⊎ (length text < from)) × (new ≡ old)
IsPartIn old text from to _ new = ⊥

pub record PartInSession (old : Session) (text : List ℕ) (from to : ℕ) (outcome : Outcome) (new : Session) : Type 0 where
  pub part : IsPartIn old text from to outcome new
  pub ended : StaysEnded old new
  pub same : sought_of new ≡ sought_of old

-- ---- all ranges of a text

-- The text was ended, and the ranges wait; the search is at the beginning of another text.
abbrev pub IsEnded : Session → Outcome → Session → Type 0
IsEnded old Good new = IsAnswered old [] None new
IsEnded old (Text f) new = IsAnswered old [] (Some f) new
IsEnded old NoMemory new = Unit {0}
IsEnded old _ new = ⊥

pub record EndsSession (old : Session) (outcome : Outcome) (new : Session) : Type 0 where
  pub ended : IsEnded old outcome new
  pub going : IsSome new.parked
  pub same : sought_of new ≡ sought_of old

-- the ranges that wait are those of the answer to a text, with this fault
abbrev pub AreFound : Session → List ℕ → Option TextFault → Session → Type 0
AreFound old text fault new = IsSome new.parked × ((p : List ℕ) → IsCompiledFrom (sought_of old) p
    → answer_to (sought_of old) p text ≡ record { ranges = waiting new.queue; fault = fault })

-- A text was searched from its beginning to its end. No text brings about a search that has no room for a range.
abbrev pub IsSearched : Session → List ℕ → Outcome → Session → Type 0
IsSearched old text Good new = AreFound old text None new
IsSearched old text (Text f) new = AreFound old text (Some f) new
IsSearched old text NoMemory new = IsSome new.parked
IsSearched old text (State f) new = (f.kind ≡ 51) × (new.parked ≡ None) × ((p : List ℕ) → IsCompiledFrom (sought_of old) p → ⊥)
IsSearched old text _ new = ⊥

pub record SearchesText (old : Session) (text : List ℕ) (outcome : Outcome) (new : Session) : Type 0 where
  pub searched : IsSearched old text outcome new
  pub same : sought_of new ≡ sought_of old

-- these are the ranges and the fault of an answer
abbrev pub IsListed : Answer → Option TextFault → ℕ → List Range → Type 0
IsListed answer fault count out = answer ≡ record { ranges = pairs (take count out); fault = fault }

-- there are so many ranges, and the first of them fill the buffer
abbrev pub FillsWith : Answer → ℕ → List Range → Type 0
FillsWith answer count out = (length answer.ranges ≡ count) × (pairs out ≡ take (length out) answer.ranges)

-- All ranges of a text, and its fault. Where there are more than the buffer has room for, it has the first of them, and in place of a
-- fault is told how many there are.
abbrev pub AreAllIn : Session → List ℕ → List Range → ℕ → Outcome → Session → Type 0
AreAllIn old text out count Good new = HasBegunAgain new × (count ≤ length out)
    × ((p : List ℕ) → IsCompiledFrom (sought_of old) p → IsListed (answer_to (sought_of old) p text) None count out)
AreAllIn old text out count (Text f) new = HasBegunAgain new × (count ≤ length out)
    × ((p : List ℕ) → IsCompiledFrom (sought_of old) p → IsListed (answer_to (sought_of old) p text) (Some f) count out)
AreAllIn old text out count (Short n) new = HasBegunAgain new × (n ≡ count) × (length out < count)
    × ((p : List ℕ) → IsCompiledFrom (sought_of old) p → FillsWith (answer_to (sought_of old) p text) count out)
AreAllIn old text out count NoMemory new = HasBegunAgain new × (count ≡ 0)
AreAllIn old text out count (State f) new = (count ≡ 0) × (f.kind ≡ 51) × (new.parked ≡ None) × ((p : List ℕ) → IsCompiledFrom (sought_of old) p → ⊥)
AreAllIn old text out count Ended new = (count ≡ 0) × HadEnded old new
AreAllIn old text out count _ new = ⊥

pub record AllInSession (old : Session) (text : List ℕ) (out : List Range) (count : ℕ) (outcome : Outcome) (new : Session) : Type 0 where
  pub all : AreAllIn old text out count outcome new
  pub ended : StaysEnded old new
  pub same : sought_of new ≡ sought_of old
