use Rattle.std.proofs.Common.{◌∙◌, ℕ, List, ◌++◌, map, sym, ap, subst, arith, append_assoc, length, length-append}
use Rattle.std.specs.Option.{option_to_list}
use Rattle.std.proofs.lemmas.List.{append-nil}
use Rattle.collation_elements.specs.declared.keys.Item.{Item}
use Rattle.collation_elements.specs.declared.keys.Item.TheVariants.{ClusterStart}
use Rattle.collation_walk.specs.Walks.{WalksOver}
use Rattle.collation_walk.proofs.ItemLemmas.{few_at_start}
use Rattle.collation_walk.proofs.matching.walk_start.Goals as goal

pub keep-requires : goal.keep-requires
keep-requires c =
    omega (arith, few_at_start (ClusterStart c.in-Some.start) c.take-range.result c.take-range.ensures.at_start, c.requires.room)

pub returns-in-Some-clause-stands : goal.returns-in-Some-clause-stands
returns-in-Some-clause-stands c = λ before ranges h.
    let one = option_to_list c.take-range.result in
    let items = ap (λ o. before ++ map (λ at. ClusterStart at) (option_to_list o)) (sym c.in-Some.is) in
    let found = append_assoc ranges c.args.found.now.items one ∙ ap (λ t. ranges ++ t) (sym c.keep.ensures) in
    subst (λ (t : List (ℕ × ℕ)). WalksOver c.args.pattern.now.keys (before ++ map (λ at. ClusterStart at) (option_to_list c.args.start)) t c.take-range.new.self) found
    (subst (λ (t : List Item). WalksOver c.args.pattern.now.keys t ((ranges ++ c.args.found.now.items) ++ one) c.take-range.new.self) items
    (c.take-range.ensures.walks before (ranges ++ c.args.found.now.items) h))

pub returns-in-Some-clause-few : goal.returns-in-Some-clause-few
returns-in-Some-clause-few c =
    omega (arith, few_at_start (ClusterStart c.in-Some.start) c.take-range.result c.take-range.ensures.at_start, ap length c.keep.ensures, length-append c.args.found.now.items (option_to_list c.take-range.result))

pub returns-in_default-clause-stands : goal.returns-in_default-clause-stands
returns-in_default-clause-stands c = λ before ranges h.
    let items = sym (append-nil before) ∙ ap (λ o. before ++ map (λ at. ClusterStart at) (option_to_list o)) (sym c.in_default.is) in
    subst (λ (t : List Item). WalksOver c.args.pattern.now.keys t (ranges ++ c.args.found.now.items) c.args.walk.now) items h
