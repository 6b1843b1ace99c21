-- What a unit is, to those who weigh it: its first point and its collation elements.
use Rattle.std.specs.Prelude.{◌≡◌, List, Some, slice_get}
use Rattle.nfd_points.specs.declared.points.Point.{Point}
use Rattle.collation_table.specs.declared.elements.Element.{Element}
use Rattle.collation_table.specs.Table.{TableMap}
use Rattle.collation_elements.specs.Elements.{unit_row}

pub record UnitValue : Type 0 where
  pub first_point : Point
  pub elements : List Element

-- the unit of these points
pub record IsUnitOf (table : TableMap) (points : List Point) (unit : UnitValue) : Type 0 where
  pub first_point : slice_get points 0 ≡ Some unit.first_point
  pub elements : unit.elements ≡ unit_row table points
