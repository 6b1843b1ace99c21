use Rattle.std.proofs.Common.{◌≡◌, ◌++◌, drop}
use Rattle.collation_elements.specs.CharacterItems.{character_items}
use Rattle.collation_elements.proofs.CharacterLaws.{items_by, after_by}
use Rattle.collation_elements.proofs.character.CharacterItems.of_lone.Given as goal

-- the items so far, and then those of the points that are left, are those of all
abbrev pub invariant-loop-point : goal.invariant-loop-point
invariant-loop-point g l = record {
  items : character_items l.all 0 ++ items_by (g.W.Weights.table l.table) l.weigher (drop l.point-index l.points) ≡ items_by (g.W.Weights.table l.table) l.fn.weigher l.points;
  after : after_by (g.W.Weights.table l.table) l.weigher (drop l.point-index l.points) ≡ after_by (g.W.Weights.table l.table) l.fn.weigher l.points;
}
