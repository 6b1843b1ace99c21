use Rattle.std.proofs.Common.{List, [], ◌∷◌, ◌++◌, map, subst, append_assoc, cond}
use Rattle.std.specs.Option.{option_to_list}
use Rattle.collation_elements.specs.declared.keys.Item.{Item}
use Rattle.collation_elements.specs.declared.keys.Item.TheVariants.{ClusterStart, Element}
use Rattle.collation_letters.specs.Letters.{begins_cluster}
use Rattle.collation_walk.specs.Walks.{WalksOver}
use Rattle.collation_walk.proofs.LetterSteps.{walks-symbols}
use Rattle.collation_walk.proofs.walk.Walk.take_letter.Goals as goal

pub returns-clause-walks : goal.returns-clause-walks
returns-clause-walks c = λ keys k items ranges h.
    let pattern = c.args.pattern.now.keys in
    let range = option_to_list c.take_start-range.result in
    let begun : List Item = cond (begins_cluster c.args.letter.now.role) (ClusterStart c.args.start ∷ []) [] in
    let one = c.take_start-range.new.self in
    let last = c.take_symbol-3.new.self in
    let started = subst (λ b. WalksOver pattern (items ++ cond b (ClusterStart c.args.start ∷ []) []) (ranges ++ range) one) c.begins_cluster.ensures (c.take_start-range.ensures.walks items ranges h) in
    subst (λ (is : List Item). WalksOver pattern is (ranges ++ range) last) (append_assoc items begun (map (λ key. Element key) keys))
    (walks-symbols c.laws_of_symbols.ensures.listed c.laws_of_symbols.ensures.turn pattern c.args.letter.now.symbols one c.take_symbol.new.self c.take_symbol-2.new.self last
    c.take_symbol.ensures.walks c.take_symbol-2.ensures.walks c.take_symbol-3.ensures.walks (items ++ begun) (ranges ++ range) keys k started)
