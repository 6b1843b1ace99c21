-- The items of a text, while its points come.
use Rattle.std.specs.Prelude.{◌≡◌, ℕ, List, is_some, true}
use Rattle.nfd_points.specs.declared.points.Point.{Point}
use Rattle.nfd_points.specs.PointFaults.{point_fault}
use Rattle.collation_table.specs.Table.{TableMap}
use Rattle.collation_elements.specs.declared.keys.Item.{Item}
use Rattle.collation_elements.specs.declared.texts.ItemsFault.{ItemsFault}
use Rattle.collation_elements.specs.declared.texts.ItemsFault.TheVariants.{Points, Memory}
use Rattle.collation_elements.specs.declared.weigher.Weigher.{Weigher}
use Rattle.collation_elements.specs.Windows.{Held, WindowStandsFor}
use Rattle.collation_elements.specs.Weighing.{WeigherStandsFor}

-- the units cut from a window that has taken these points give the items
pub record Gives (table : TableMap) (window : Held) (weigher : Weigher) (given : List Item) (taken : List Point) : Type 0 where
  pub units : List (List Point)
  pub cut : WindowStandsFor table window taken units
  pub weighed : WeigherStandsFor table weigher units given

-- the settings stay
pub record HasSettings (weigher other : Weigher) : Type 0 where
  pub strength : weigher.strength ≡ other.strength
  pub variable : weigher.variable ≡ other.variable

-- why code points have no items: at `Points` one is at fault
abbrev pub IsUnread : List ℕ → ItemsFault → Type 0
IsUnread cs Points = is_some (point_fault cs) ≡ true
IsUnread cs Memory = Unit {0}
