-- What it is to take characters, whatever was taken before.
use Rattle.std.specs.Prelude.{◌≡◌, ◌⊎◌, ℕ, ◌+◌, ◌≤◌, true, List, ◌++◌, length, take, Option, Some}
use Rattle.std.specs.Str.{chars, IsUtf8}
use Rattle.nfd_points.specs.Points.{byte_len, points_of, begins_with_starter}
use Rattle.nfd_points.specs.Reordering.{Waiting}
use Rattle.collation_table.specs.Table.{TableMap}
use Rattle.collation_elements.specs.Windows.{Held}
use Rattle.collation_pattern.specs.Compiled.{Compiled}
use Rattle.collation_walk.specs.declared.matching.Matcher.{Matcher}
use Rattle.collation_finder.specs.declared.finder.Finder.{Finder}
use Rattle.collation_finder.specs.declared.letter_loop.Front.{Front}
use Rattle.collation_finder.specs.TakenAtOnce.{IsPausedBefore}
use Rattle.collation_finder.specs.Early.{IsCutUpTo}
use Rattle.collation_finder.specs.Finding.{FinderStandsFor, StaysOpen}

-- ---- what a finder stood for before

-- It has paused behind what was taken: no unit reaches from there to the next character, which begins with a starter.
pub record StandsPaused (table : TableMap) (pattern : Compiled) (waiting : Waiting) (window : Held) (matcher : Matcher) (next : ℕ) (taken : List ℕ) (handed : List (ℕ × ℕ)) : Type 0 where
  pub paused : IsPausedBefore table pattern waiting window matcher taken handed next
  pub starter : begins_with_starter (points_of (byte_len taken) next) ≡ true

-- It has paused before the first of some characters, if there is one.
pub record StandsPausedBefore (table : TableMap) (pattern : Compiled) (waiting : Waiting) (window : Held) (matcher : Matcher) (first : Option ℕ) (taken : List ℕ) (handed : List (ℕ × ℕ)) : Type 0 where
  pub next : ℕ
  pub some : first ≡ Some next
  pub stands : StandsPaused table pattern waiting window matcher next taken handed

-- It represents what was taken, or it has paused there.
abbrev pub StandsBefore : TableMap → Compiled → Finder → Option ℕ → List ℕ → List (ℕ × ℕ) → Type 0
StandsBefore table pattern finder first taken handed = FinderStandsFor table pattern finder taken handed ⊎ StandsPausedBefore table pattern finder.reorder finder.window finder.matcher first taken handed

-- ---- and up to which byte offset, at most, units were cut early, or are to be

-- It represents what was taken, and units were cut early up to `place` at most.
pub record StandsCut (table : TableMap) (pattern : Compiled) (finder : Finder) (place : ℕ) (taken : List ℕ) (handed : List (ℕ × ℕ)) : Type 0 where
  pub stands : FinderStandsFor table pattern finder taken handed
  pub cut : IsCutUpTo table place taken finder.window.points

-- The same, where units may be cut early before a character that does not begin after `reach`.
abbrev pub StandsCutWithin : TableMap → Compiled → Finder → ℕ → ℕ → List ℕ → List (ℕ × ℕ) → Type 0
StandsCutWithin table pattern finder reach place taken handed = (byte_len taken + reach ≤ place) × StandsCut table pattern finder place taken handed

-- It has paused, and the same.
abbrev pub StandsPausedWithin : TableMap → Compiled → Finder → ℕ → ℕ → ℕ → List ℕ → List (ℕ × ℕ) → Type 0
StandsPausedWithin table pattern finder next reach place taken handed = (byte_len taken + reach ≤ place) × StandsPaused table pattern finder.reorder finder.window finder.matcher next taken handed

-- Either of both.
abbrev pub StandsCutBefore : TableMap → Compiled → Finder → Option ℕ → ℕ → List ℕ → List (ℕ × ℕ) → Type 0
StandsCutBefore table pattern finder first place taken handed =
    StandsCut table pattern finder place taken handed ⊎ ((byte_len taken ≤ place) × StandsPausedBefore table pattern finder.reorder finder.window finder.matcher first taken handed)

-- ---- taking

-- Where the finder stood for what was taken before, so many bytes, the characters went in, and the ranges came out.
abbrev pub TakesFrom : (List ℕ → List (ℕ × ℕ) → Type 0) → TableMap → Compiled → Finder → ℕ → List ℕ → List (ℕ × ℕ) → Type 0
TakesFrom Stood table pattern new offset cs ranges =
    (taken : List ℕ) (handed : List (ℕ × ℕ)) → Stood taken handed → offset ≡ byte_len taken → FinderStandsFor table pattern new (taken ++ cs) (handed ++ ranges)

-- Units are cut early up to the same byte offset, at most, as they were or were to be.
abbrev pub CutsFrom : (ℕ → List ℕ → List (ℕ × ℕ) → Type 0) → TableMap → Finder → ℕ → List ℕ → Type 0
CutsFrom Stood table new offset cs =
    (place : ℕ) (taken : List ℕ) (handed : List (ℕ × ℕ)) → Stood place taken handed → offset ≡ byte_len taken → IsCutUpTo table place (taken ++ cs) new.window.points

-- Characters went in, whether the finder represented what was taken before, or had paused before the first of them.
pub record TakesBehind (table : TableMap) (pattern : Compiled) (old new : Finder) (first : Option ℕ) (offset : ℕ) (cs : List ℕ) (ranges : List (ℕ × ℕ)) : Type 0 where
  pub stands : TakesFrom (StandsBefore table pattern old first) table pattern new offset cs ranges
  pub left : CutsFrom (StandsCutBefore table pattern old first) table new offset cs

-- Characters at the front of a piece went in, so many bytes, from what the finder stood for before.
pub record TakesFront (Stood : List ℕ → List (ℕ × ℕ) → Type 0) (Cut : ℕ → List ℕ → List (ℕ × ℕ) → Type 0) (table : TableMap) (pattern : Compiled) (old new : Finder) (front : Front) (len : ℕ) (ranges : List (ℕ × ℕ)) : Type 0 where
  pub stands : TakesFrom Stood table pattern new front.offset (chars (take len front.piece.now)) ranges
  pub left : CutsFrom Cut table new front.offset (chars (take len front.piece.now))
  pub within : len ≤ length front.piece.now
  pub text : IsUtf8 (take len front.piece.now)
  pub goes_on : StaysOpen old new

-- Whatever was taken before. Units may be cut early then, but only before a character that does not begin after `reach`.
abbrev pub TakesText : TableMap → Compiled → Finder → Finder → Front → ℕ → List (ℕ × ℕ) → Type 0
TakesText table pattern old new front = TakesFront (FinderStandsFor table pattern old) (StandsCutWithin table pattern old front.reach) table pattern old new front

-- Behind a pause before the first of them.
abbrev pub TakesPaused : TableMap → Compiled → Finder → Finder → ℕ → Front → ℕ → List (ℕ × ℕ) → Type 0
TakesPaused table pattern old new next front = TakesFront (StandsPaused table pattern old.reorder old.window old.matcher next) (StandsPausedWithin table pattern old next front.reach) table pattern old new front
