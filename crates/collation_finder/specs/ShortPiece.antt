-- A short piece behind characters that a window holds.
use Rattle.std.specs.Prelude.{◌≡◌, ℕ, ◌+◌, ◌-◌, ◌≤◌, true, List, [], ◌∷◌, ◌++◌, length, take, drop, All}
use Rattle.std.specs.Char.{len_utf8}
use Rattle.std.specs.Str.{chars, IsUtf8}
use Rattle.utf8_cut.specs.Sequences.{SpellsCharacter}
use Rattle.nfd_points.specs.Points.{byte_len, points_of, points_from, begins_with_starter, is_starter}
use Rattle.collation_table.specs.Table.{TableMap}
use Rattle.collation_elements.specs.Windows.{Held}
use Rattle.collation_pattern.specs.Compiled.{Compiled}
use Rattle.collation_letters.specs.Letters.{IsLetter}
use Rattle.collation_walk.specs.Walks.{passed_to}
use Rattle.collation_finder.specs.declared.finder.Finder.{Finder}
use Rattle.collation_finder.specs.declared.letter_loop.Front.{Front}
use Rattle.collation_finder.specs.declared.short_piece.PassedShort.{PassedShort}
use Rattle.collation_finder.specs.TakenAtOnce.{AreDecomposed, IsPausedBefore}
use Rattle.collation_finder.specs.Finding.{FinderStandsFor}

-- The points of the window are starters, and, where each is its own decomposition, those of the characters of these bytes, which end at a
-- byte offset; no point waits.
pub record HoldsText (finder : Finder) (end : ℕ) (bytes : List ℕ) : Type 0 where
  pub text : IsUtf8 bytes
  pub few : length bytes ≤ end
  pub points : AreDecomposed finder.window.points → finder.window.points ≡ points_from (end - length bytes) (chars bytes)
  pub starters : All (λ p. is_starter p ≡ true) finder.window.points
  pub none_waits : finder.reorder.held ≡ []

-- So many bytes of a piece, which stands at an offset, may be passed by together with what the window holds: with an empty window, and
-- with a walk that passed to a start, the search is paused behind them, before the next character.
pub record PassesShort (table : TableMap) (pattern : Compiled) (finder : Finder) (piece : List ℕ) (offset reach start len next : ℕ) : Type 0 where
  pub near : len ≤ reach
  pub within : len + len_utf8 next ≤ length piece
  pub spelled : SpellsCharacter (take (len_utf8 next) (drop len piece)) next
  pub text : IsUtf8 (take len piece)
  pub begins : begins_with_starter (points_of (offset + len) next) ≡ true
  pub none_waits : finder.reorder.held ≡ []
  pub paused : (taken : List ℕ) (handed : List (ℕ × ℕ)) (window : Held) → window.points ≡ [] → FinderStandsFor table pattern finder taken handed → offset ≡ byte_len taken →
      IsPausedBefore table pattern finder.reorder window (record finder.matcher { walk = passed_to finder.matcher.walk start }) (taken ++ chars (take len piece)) handed next

-- What may be passed by at the front of a piece, with the letter of the character that follows.
pub record MayPassShort (table : TableMap) (pattern : Compiled) (finder : Finder) (front : Front) (passed : PassedShort) : Type 0 where
  pub passes : PassesShort table pattern finder front.piece.now front.offset front.reach passed.start passed.end.len passed.end.next
  pub letter : IsLetter table pattern (passed.end.next ∷ []) passed.end.letter
