use Rattle.std.proofs.Common.{◌∙◌, ℕ, List, ◌++◌, map, sym, ap, subst}
use Rattle.std.specs.Option.{option_to_list}
use Rattle.std.proofs.lemmas.List.{append-nil}
use Rattle.collation_elements.specs.declared.keys.Item.{Item}
use Rattle.collation_elements.specs.declared.keys.Item.TheVariants.{Element}
use Rattle.collation_walk.specs.Walks.{WalksOver}
use Rattle.collation_walk.proofs.ItemLemmas.{no_range_at_key}
use Rattle.collation_walk.proofs.matching.walk_key.Goals as goal

pub returns-in-Some-clause-stands : goal.returns-in-Some-clause-stands
returns-in-Some-clause-stands c = λ before ranges h.
    let items = ap (λ o. before ++ map (λ k. Element k) (option_to_list o)) (sym c.in-Some.is) in
    let found = ap (λ t. ranges ++ t) (no_range_at_key c.in-Some.key c.take.result c.take.ensures.at_start) ∙ append-nil ranges in
    subst (λ (t : List (ℕ × ℕ)). WalksOver c.args.pattern.now.keys (before ++ map (λ k. Element k) (option_to_list c.args.key)) t c.take.new.self) found
    (subst (λ (t : List Item). WalksOver c.args.pattern.now.keys t (ranges ++ option_to_list c.take.result) c.take.new.self) items
    (c.take.ensures.walks before ranges h))

pub returns-in_default-clause-stands : goal.returns-in_default-clause-stands
returns-in_default-clause-stands c = λ before ranges h.
    let items = sym (append-nil before) ∙ ap (λ o. before ++ map (λ k. Element k) (option_to_list o)) (sym c.in_default.is) in
    subst (λ (t : List Item). WalksOver c.args.pattern.now.keys t ranges c.args.walk.now) items h
