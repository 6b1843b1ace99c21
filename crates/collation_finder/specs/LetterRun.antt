-- A matcher that goes over letters.
use Rattle.std.specs.Prelude.{◌≡◌, ℕ, ◌+◌, ◌-◌, ◌<◌, ◌≤◌, Bool, false, true, List, [], ◌∷◌, ◌++◌, length, take, drop}
use Rattle.std.specs.Char.{len_utf8}
use Rattle.std.specs.Str.{chars, IsUtf8}
use Rattle.utf8_cut.specs.Sequences.{SpellsCharacter}
use Rattle.nfd_points.specs.Points.{points_of, begins_with_starter}
use Rattle.collation_elements.specs.Units.{units}
use Rattle.collation_elements.specs.Weighing.{is_after_variable}
use Rattle.collation_letters.specs.declared.letter.Letter.{Letter}
use Rattle.collation_letters.specs.Letters.{IsLetter, ordered_from}
use Rattle.collation_letters.specs.Apart.{IsNext}
use Rattle.collation_table.specs.Table.{TableMap}
use Rattle.collation_pattern.specs.Compiled.{Compiled}
use Rattle.collation_matches.specs.GoodPrefix.{most_bytes}
use Rattle.collation_walk.specs.declared.matching.Matcher.{Matcher}
use Rattle.collation_walk.specs.Walked.{HasWalkedOn}
use Rattle.collation_finder.specs.declared.letter_loop.Front.{Front}
use Rattle.collation_finder.specs.declared.letter_loop.Walked.{Walked}
use Rattle.collation_finder.specs.TakenAtOnce.{CanBeTakenAtOnce}

-- a character stands at the front of a piece
abbrev pub StandsInFront : List ℕ → ℕ → Type 0
StandsInFront piece c = (len_utf8 c ≤ length piece) × SpellsCharacter (take (len_utf8 c) piece) c

-- This character stands there, which begins with a starter, and has this letter; the piece stands at an offset.
pub record IsFirstLetter (table : TableMap) (pattern : Compiled) (piece : List ℕ) (offset c : ℕ) (l : Letter) : Type 0 where
  pub front : StandsInFront piece c
  pub begins : begins_with_starter (points_of offset c) ≡ true
  pub letter : IsLetter table pattern (c ∷ []) l

-- Behind so many bytes of a piece a character follows, with its letter.
pub record IsFollowed (table : TableMap) (pattern : Compiled) (piece : List ℕ) (walked : Walked) : Type 0 where
  pub within : walked.len + len_utf8 walked.next ≤ length piece
  pub next : SpellsCharacter (take (len_utf8 walked.next) (drop walked.len piece)) walked.next
  pub letter : IsLetter table pattern (walked.next ∷ []) walked.letter

-- these characters, which have a letter, and one more are one letter
abbrev pub IsJoined : TableMap → Compiled → List ℕ → Letter → ℕ → Letter → Letter → Type 0
IsJoined table pattern cs letter c following both =
    IsLetter table pattern cs letter → IsLetter table pattern (c ∷ []) following → IsLetter table pattern (cs ++ c ∷ []) both

-- A matcher that went over characters at the front of a piece, which stands at an offset, stands before the character c: these
-- have so many bytes, and no unit reaches from them to c.
pub record HasComeTo (table : TableMap) (pattern : Compiled) (piece : List ℕ) (offset reach first : ℕ) (matcher now : Matcher) (at c : ℕ) (ranges : List (ℕ × ℕ)) : Type 0 where
  pub near : at ≤ reach
  pub within : at + len_utf8 c ≤ length piece
  pub next : SpellsCharacter (take (len_utf8 c) (drop at piece)) c
  pub text : IsUtf8 (take at piece)
  pub begun : (others : List ℕ) × (chars (take at piece) ++ c ∷ [] ≡ first ∷ others)
  pub apart : CanBeTakenAtOnce table offset (chars (take at piece)) c
  pub walked : HasWalkedOn table pattern matcher now (units table (ordered_from offset (chars (take at piece)))) ranges

-- The next characters of the piece, up to a place, which begin with c: no unit reaches from them to the character that follows.
pub record AreNext (table : TableMap) (piece : List ℕ) (offset reach at to c next : ℕ) : Type 0 where
  pub forth : at ≤ to
  pub near : to ≤ reach
  pub within : to + len_utf8 next ≤ length piece
  pub spelled : SpellsCharacter (take (len_utf8 next) (drop to piece)) next
  pub part : IsUtf8 (take (to - at) (drop at piece))
  pub first : (others : List ℕ) × (chars (take (to - at) (drop at piece)) ≡ c ∷ others)
  pub ends : IsNext table (offset + at) (chars (take (to - at) (drop at piece))) next

-- the same of what was walked over of the front of a piece
abbrev pub HasWalkedTo : TableMap → Compiled → Front → ℕ → Matcher → Matcher → Walked → List (ℕ × ℕ) → Type 0
HasWalkedTo table pattern front first matcher now to ranges = HasComeTo table pattern front.piece.now front.offset front.reach first matcher now to.len to.next ranges

-- Behind what was walked over no key waits, and the last element that was variable or primary was not variable: text may be passed by.
pub record MayPassBy (table : TableMap) (pattern : Compiled) (front : Front) (now : Matcher) (from : Walked) : Type 0 where
  pub near : from.len ≤ front.reach
  pub first : IsFirstLetter table pattern (drop from.len front.piece.now) (front.offset + from.len) from.next from.letter
  pub later : 0 < front.offset + from.len
  pub fits : front.offset + length front.piece.now ≤ most_bytes
  pub state : now.walk.state ≡ 0
  pub flag : is_after_variable now.weigher ≡ false

-- A matcher that has come to a character walks on to another one, whatever it went over before, and hands out these ranges; text may be passed
-- by from there on, if that is said.
pub record WalksOn (table : TableMap) (pattern : Compiled) (front : Front) (matcher now : Matcher) (from : Walked) (to : Walked × Bool) (ranges : List (ℕ × ℕ)) : Type 0 where
  pub come : (first : ℕ) (before : Matcher) (earlier : List (ℕ × ℕ)) → HasWalkedTo table pattern front first before matcher from earlier
      → HasWalkedTo table pattern front first before now to.0 (earlier ++ ranges)
  pub due : to.1 ≡ true → (from.len < to.0.len) × MayPassBy table pattern front now to.0

-- A matcher that has come to a character goes on to another one, whatever it went over before, and no range ends between them.
pub record PassesOn (table : TableMap) (pattern : Compiled) (front : Front) (matcher now : Matcher) (from to : Walked) : Type 0 where
  pub come : (first : ℕ) (before : Matcher) (ranges : List (ℕ × ℕ)) → HasWalkedTo table pattern front first before matcher from ranges
      → HasWalkedTo table pattern front first before now to ranges
  pub forth : from.len ≤ to.len
  pub letter : IsLetter table pattern (to.next ∷ []) to.letter
