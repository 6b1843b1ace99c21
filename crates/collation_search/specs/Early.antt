-- A search within a piece, whose units may have been cut early.
use Rattle.std.specs.Prelude.{◌≡◌, ℕ, ◌≤◌, true, ◌&&◌, nat_le, List, length, filter, Option, None}
use Rattle.std.specs.Str.{chars}
use Rattle.utf8_cut.specs.Characters.{characters, with_offsets}
use Rattle.utf8_cut.specs.State.{StandsFor}
use Rattle.utf8_cut.specs.Value.{CutState}
use Rattle.nfd_points.specs.Points.{points_of, begins_with_starter}
use Rattle.collation_table.specs.Table.{TableMap}
use Rattle.collation_pattern.specs.Compiled.{Compiled}
use Rattle.collation_matches.specs.declared.faults.TextFault.{TextFault}
use Rattle.collation_matches.specs.GoodPrefix.{is_good_so_far, whole}
use Rattle.collation_finder.specs.declared.finder.Finder.{Finder}
use Rattle.collation_finder.specs.Finding.{FinderStandsFor}
pub use Rattle.collation_finder.specs.Early.{IsCutEarly, IsCutUpTo}

-- how many of the characters of a text that begin with a starter stand at a byte offset or after it
abbrev pub starters_from : ℕ → List ℕ → ℕ
starters_from offset cs = length (filter (λ c. nat_le offset c.1 && begins_with_starter (points_of 0 c.0)) (with_offsets 0 cs))

-- The bytes `taken` went in, which are open, and the ranges were handed out; units were cut early up to `place` at most, a byte offset
-- in the text.
pub record Taken (table : TableMap) (pattern : Compiled) (cut : CutState) (finder : Finder) (fault : Option TextFault) (place : ℕ) (taken : List ℕ) (handed : List (ℕ × ℕ)) : Type 0 where
  pub cut_stands : StandsFor cut taken (characters taken)
  pub found : FinderStandsFor table pattern finder (chars (whole taken)) handed
  pub open_bytes : is_good_so_far taken ≡ true
  pub no_fault : fault ≡ None
  pub some_key : 1 ≤ length pattern.keys
  pub left : IsCutUpTo table place (chars (whole taken)) finder.window.points
