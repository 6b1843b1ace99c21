use Rattle.std.proofs.Common.{List, [], ◌∷◌, ◌++◌, map, subst, append_assoc}
use Rattle.std.specs.Option.{option_to_list}
use Rattle.collation_elements.specs.declared.keys.Item.{Item}
use Rattle.collation_elements.specs.declared.keys.Item.TheVariants.{ClusterStart, Element}
use Rattle.collation_walk.specs.Walks.{WalksOver}
use Rattle.collation_walk.proofs.walk.Walk.take_plain.Goals as goal

pub returns-clause-walks : goal.returns-clause-walks
returns-clause-walks c = λ keys k items ranges h.
    let found = option_to_list c.take-range.result in
    let begun : List Item = items ++ ClusterStart c.args.start ∷ [] in
    subst (λ (is : List Item). WalksOver c.args.pattern.now.keys is (ranges ++ found) c.take_symbol.new.self)
    (append_assoc items (ClusterStart c.args.start ∷ []) (map (λ key. Element key) keys))
    (c.take_symbol.ensures.walks begun (ranges ++ found) keys k (c.take-range.ensures.walks items ranges h))
