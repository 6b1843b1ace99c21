-- What a comparison with a pattern represents, while the bytes of a text come.
use Rattle.std.specs.Prelude.{◌≡◌, ℕ, true, List}
use Rattle.std.specs.Str.{chars}
use Rattle.utf8_cut.specs.Characters.{characters}
use Rattle.utf8_cut.specs.State.{StandsFor}
use Rattle.nfd_points.specs.declared.points.Point.{Point}
use Rattle.nfd_points.specs.Reordering.{HasReordered}
use Rattle.collation_table.specs.Table.{TableMap}
use Rattle.collation_pattern.specs.Compiled.{Compiled}
use Rattle.collation_matches.specs.GoodPrefix.{is_good_so_far, whole}
use Rattle.collation_anchored.specs.declared.comparison.Comparison.{Comparison}
use Rattle.collation_anchored.specs.Compared.{KeysCame}

-- the code points were taken
pub record HasCompared (table : TableMap) (pattern : Compiled) (comparison : Comparison) (taken : List ℕ) : Type 0 where
  pub points : List Point
  pub reordered : HasReordered comparison.reorder taken points
  pub came : KeysCame table pattern comparison.window comparison.weigher comparison.progress points

-- the bytes went in, which a longer text may begin with
pub record HasComparedBytes (table : TableMap) (pattern : Compiled) (comparison : Comparison) (taken : List ℕ) : Type 0 where
  pub cut_stands : StandsFor comparison.cut taken (characters taken)
  pub compared : HasCompared table pattern comparison (chars (whole taken))
  pub open_bytes : is_good_so_far taken ≡ true
