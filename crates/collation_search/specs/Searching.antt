-- What a search represents, by the values that it holds.
use Rattle.std.specs.Prelude.{◌≡◌, ℕ, ◌≤◌, true, List, Option, None, length}
use Rattle.std.specs.Str.{chars}
use Rattle.utf8_cut.specs.Characters.{characters}
use Rattle.utf8_cut.specs.State.{StandsFor}
use Rattle.utf8_cut.specs.Value.{CutState}
use Rattle.collation_table.specs.Table.{TableMap}
use Rattle.collation_elements.specs.Decided.{left_points}
use Rattle.collation_pattern.specs.Compiled.{Compiled}
use Rattle.collation_matches.specs.declared.faults.TextFault.{TextFault}
use Rattle.collation_finder.specs.declared.finder.Finder.{Finder}
use Rattle.collation_finder.specs.Finding.{FinderStandsFor}
use Rattle.collation_matches.specs.GoodPrefix.{is_good_so_far, whole}
use Rattle.collation_search.specs.StateAfter.{final_points}

-- The bytes `taken` went in, which are open, and the ranges were handed out; the points left in the window are exactly those of which
-- no unit is decided. So what was handed out, and what the search holds, are functions of the bytes (`StateAfter`).
pub record Searched (table : TableMap) (pattern : Compiled) (cut : CutState) (finder : Finder) (fault : Option TextFault) (taken : List ℕ) (handed : List (ℕ × ℕ)) : Type 0 where
  pub cut_stands : StandsFor cut taken (characters taken)
  pub found : FinderStandsFor table pattern finder (chars (whole taken)) handed
  pub open_bytes : is_good_so_far taken ≡ true
  pub no_fault : fault ≡ None
  pub some_key : 1 ≤ length pattern.keys
  pub left : finder.window.points ≡ left_points table (final_points (chars (whole taken)))
