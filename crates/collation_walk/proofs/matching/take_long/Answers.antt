use Rattle.std.proofs.Common.{◌∙◌, List, [], ◌∷◌, ◌++◌, length, ap, subst, arith}
use Rattle.collation_elements.specs.declared.keys.Item.{Item}
use Rattle.collation_elements.specs.ItemParts.{item_starts}
use Rattle.collation_elements.specs.Weighing.{WeigherStandsFor}
use Rattle.collation_walk.specs.Walks.{WalksOver}
use Rattle.collation_walk.proofs.ItemLemmas.{value_items-few}
use Rattle.collation_walk.proofs.matching.take_long.Goals as goal

pub walk_over-requires-clause-room : goal.walk_over-requires-clause-room
walk_over-requires-clause-room c =
    let same = ap (λ t. length (item_starts t)) (c.as_slice.ensures.value ∙ c.take.ensures.items) in
    omega (arith, value_items-few c.args.matcher.now.weigher c.args.unit, same, c.requires.room)

pub returns-clause-taken : goal.returns-clause-taken
returns-clause-taken c = record {
  weighed = λ table points units given is stands.
      subst (λ (t : List Item). WeigherStandsFor table c.take.new.self (units ++ points ∷ []) (given ++ t)) c.take.ensures.items
      (c.take.ensures.stands table points units given is stands);
  after = c.take.ensures.after;
  walked = λ before ranges h.
      subst (λ (t : List Item). WalksOver c.args.pattern.now.keys (before ++ t) (ranges ++ c.walk_over.new.found.items) c.walk_over.new.walk)
      (c.as_slice.ensures.value ∙ c.take.ensures.items)
      (c.walk_over.ensures.stands before ranges h);
}

pub returns-clause-few : goal.returns-clause-few
returns-clause-few c =
    let same = ap (λ t. length (item_starts t)) (c.as_slice.ensures.value ∙ c.take.ensures.items) in
    omega (arith, value_items-few c.args.matcher.now.weigher c.args.unit, same, c.walk_over.ensures.few)
