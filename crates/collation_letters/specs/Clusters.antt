-- A letter whose last marks are known apart, so that a mark of a lower class can go before them.
use Rattle.std.specs.Prelude.{◌≡◌, ℕ, Bool, true, false, List, [], ◌∷◌, ◌++◌, Option, None}
use Rattle.nfd_points.specs.declared.points.Point.{Point}
use Rattle.collation_table.specs.Table.{TableMap, ContinuesNoString}
use Rattle.collation_pattern.specs.Compiled.{Compiled}
use Rattle.collation_letters.specs.declared.letter.Letter.{Letter}
use Rattle.collation_letters.specs.declared.cluster.Cluster.{Cluster}
use Rattle.collation_letters.specs.Letters.{is_mark, IsLetterAt, IsLetterOf}

-- where these points are one, it stands in no mapped string after the first place
abbrev pub ContinuesNone : TableMap → List Point → Type 0
ContinuesNone table ps = (p : Point) → ps ≡ p ∷ [] → ContinuesNoString table p.cp

-- These points are one, of which this is the letter, if that is a mark; else there are none. It stands in no mapped string after the first
-- place where that is wanted.
pub record IsMarkOrNone (table : TableMap) (pattern : Compiled) (ps : List Point) (l : Letter) (is_closed : Bool) : Type 0 where
  pub one : is_mark l.role ≡ true → (p : Point) × (ps ≡ p ∷ []) × IsLetterOf table pattern (p ∷ []) l
  pub none : is_mark l.role ≡ false → ps ≡ []
  pub free : is_closed ≡ false → ContinuesNone table ps

-- Points in canonical order: those of the base, and then those of the last two marks, as far as these are known. Where a unit may reach out
-- of the base, these stand in no mapped string after the first place. The letters of all and of the base are right everywhere, or at a depth.
pub record IsClusterAt (depth : Option ℕ) (table : TableMap) (pattern : Compiled) (ps : List Point) (it : Cluster) : Type 0 where
  pub first : List Point
  pub before : List Point
  pub last : List Point
  pub all : ps ≡ (first ++ before) ++ last
  pub letter : IsLetterAt depth table pattern ps it.letter
  pub base : IsLetterAt depth table pattern first it.base
  pub closed : it.letter.is_closed ≡ it.base.is_closed
  pub before_is : IsMarkOrNone table pattern before it.before it.base.is_closed
  pub last_is : IsMarkOrNone table pattern last it.last it.base.is_closed

abbrev pub IsCluster : TableMap → Compiled → List Point → Cluster → Type 0
IsCluster table pattern ps it = IsClusterAt None table pattern ps it
