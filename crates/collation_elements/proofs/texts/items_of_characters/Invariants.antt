use Rattle.std.proofs.Common.{◌≡◌, ◌+◌, ◌≤◌, List, true, false, length, take}
use Rattle.nfd_points.specs.declared.points.Point.{Point}
use Rattle.nfd_points.specs.Points.{byte_len}
use Rattle.nfd_points.specs.declared.limits.TheConstants.{MOST_GIVEN}
use Rattle.nfd_points.specs.Reordering.{HasReordered}
use Rattle.collation_table.specs.Table.{longest_mapped}
use Rattle.collation_elements.specs.Texts.{Gives}
use Rattle.nfd_points.specs.Reordering.{is_closed}
use Rattle.collation_elements.proofs.texts.items_of_characters.Given as goal

-- the characters so far went through the reorderer, the window and the weigher
abbrev pub invariant-loop-c : goal.invariant-loop-c
invariant-loop-c g l = record {
  read : (given : List Point) × HasReordered l.reorder (take l.c-index l.characters) given × Gives (g.W.Weights.table l.table) l.window l.weigher l.items.items given;
  offset : l.offset ≡ byte_len (take l.c-index l.characters);
  strength : l.weigher.strength ≡ l.fn.strength;
  variable : l.weigher.variable ≡ l.fn.variable;
  capacity : l.window.capacity ≡ longest_mapped (g.W.Weights.table l.table) + MOST_GIVEN;
  not_ended : l.window.has_ended ≡ false;
  last : is_closed l.window.points ≡ true;
  small : length l.window.points ≤ longest_mapped (g.W.Weights.table l.table);
}
