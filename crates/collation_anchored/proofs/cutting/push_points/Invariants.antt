use Rattle.std.proofs.Common.{◌≡◌, List, ◌++◌, take}
use Rattle.nfd_points.specs.declared.points.Point.{Point}
use Rattle.collation_table.specs.Table.{TableMap}
use Rattle.collation_elements.specs.Windows.{WindowStandsFor}
use Rattle.collation_anchored.proofs.cutting.push_points.Given as goal

-- the points so far were pushed
abbrev pub invariant-loop-point : goal.invariant-loop-point
invariant-loop-point l = record {
  pushed : l.window ≡ record l.initial.window { points = l.initial.window.points ++ take l.point-index l.points };
  stands : (table : TableMap) (taken : List Point) (given : List (List Point)) → WindowStandsFor table l.initial.window taken given
      → WindowStandsFor table l.window (taken ++ take l.point-index l.points) given;
}
