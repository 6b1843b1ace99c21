-- What the contract of `weighers_go_on` says: a weigher that stands for some units goes on with more.
use Rattle.std.proofs.Common.{◌≡◌, Bool, List, ◌++◌}
use Rattle.nfd_points.specs.declared.points.Point.{Point}
use Rattle.collation_table.specs.Table.{TableMap}
use Rattle.collation_elements.specs.declared.keys.Item.{Item}
use Rattle.collation_elements.specs.declared.weigher.Weigher.{Weigher}
use Rattle.collation_elements.specs.Items.{items as items_of}
use Rattle.collation_elements.specs.Weighing.{weigher, after_units, WeigherStandsFor}

abbrev pub WeighersGoOn : Type 0
WeighersGoOn =
    (table : TableMap) (w : Weigher) (us vs : List (List Point)) (given more : List Item) (after : Bool) → items_of table w.strength w.variable w.after_variable vs ≡ more →
    after_units table w.variable w.after_variable vs ≡ after → WeigherStandsFor table w us given → WeigherStandsFor table (weigher w.strength w.variable after) (us ++ vs) (given ++ more)
