-- What a finder does before letters.
use Rattle.std.specs.Prelude.{◌≡◌, ℕ, true, List, [], ◌∷◌, ◌++◌}
use Rattle.nfd_points.specs.declared.points.Point.{Point}
use Rattle.nfd_points.specs.Points.{begins_with_starter, byte_len, decomposition, points, points_of}
use Rattle.collation_table.specs.Table.{TableMap}
use Rattle.collation_pattern.specs.Compiled.{Compiled}
use Rattle.collation_letters.specs.declared.letter.Letter.{Letter}
use Rattle.collation_letters.specs.declared.letter.Role.TheVariants.{Plain}
use Rattle.collation_letters.specs.Letters.{IsLetter, ordered_from}
use Rattle.collation_finder.specs.declared.finder.Finder.{Finder}
use Rattle.collation_finder.specs.TakenAtOnce.{EndsBefore, IsPaused}
use Rattle.collation_finder.specs.Finding.{FinderStandsFor}

-- The code point of a point has a plain letter; where it is its own decomposition, it gives this point alone.
pub record IsPlainPoint (table : TableMap) (pattern : Compiled) (point : Point) (l : Letter) : Type 0 where
  pub alone : decomposition point.cp ≡ point.cp ∷ [] → ordered_from point.offset (point.cp ∷ []) ≡ point ∷ []
  pub plain : l.role ≡ Plain
  pub letter : IsLetter table pattern (point.cp ∷ []) l

-- A character that stands at a byte offset begins with a starter, and no unit reaches into it from all that a finder represents.
pub record BeginsUnit (table : TableMap) (pattern : Compiled) (finder : Finder) (offset c : ℕ) : Type 0 where
  pub starter : begins_with_starter (points_of offset c) ≡ true
  pub ends : (taken : List ℕ) (handed : List (ℕ × ℕ)) → FinderStandsFor table pattern finder taken handed → offset ≡ byte_len taken → EndsBefore table (points taken) (byte_len taken) c

-- It pauses behind all that it represents, and the ranges came out.
abbrev pub Pauses : TableMap → Compiled → Finder → Finder → List (ℕ × ℕ) → Type 0
Pauses table pattern old new ranges =
    (taken : List ℕ) (handed : List (ℕ × ℕ)) → FinderStandsFor table pattern old taken handed → IsPaused table pattern new.reorder new.window new.matcher taken (handed ++ ranges)

-- It cuts some units early, and represents what it did.
abbrev pub CutsSome : TableMap → Compiled → Finder → Finder → List (ℕ × ℕ) → Type 0
CutsSome table pattern old new ranges =
    (taken : List ℕ) (handed : List (ℕ × ℕ)) → FinderStandsFor table pattern old taken handed → FinderStandsFor table pattern new taken (handed ++ ranges)
