use Rattle.std.proofs.Common.{◌≡◌, ◌<◌, List, [], ◌∷◌, ◌++◌, if◌then◌else◌, length, map, drop, sym, ap, ◌∙◌, append-nil, arith, rules}
use Rattle.std.proofs.lemmas.Bool.{eqb-true}
use Rattle.std.proofs.lemmas.List.{map-append}
use Rattle.collation_elements.specs.declared.keys.Key.{Key}
use Rattle.collation_elements.specs.declared.keys.Item.{Item}
use Rattle.collation_elements.specs.declared.keys.Item.TheVariants.{ClusterStart, Element}
use Rattle.collation_elements.proofs.CharacterLaws.{keys_after_start, more_keys}
use Rattle.collation_elements.proofs.character.CharacterItems.of_items.Goals as goal

three_keys : (a b c : List Key) (k0 k1 k2 k3 : List Item) → k0 ≡ map (λ k. Element k) a ++ k1 → k1 ≡ map (λ k. Element k) b ++ k2 → k2 ≡ map (λ k. Element k) c ++ k3 → length k3 ≡ 0
    → k0 ≡ map (λ k. Element k) (a ++ (b ++ c))
three_keys a b c k0 k1 k2 [] e0 e1 e2 none =
    let all : map (λ k. Element k) (a ++ (b ++ c)) ≡ map (λ k. Element k) a ++ (map (λ k. Element k) b ++ map (λ k. Element k) c) = simp map-append in
    e0 ∙ ap (λ k. map (λ k. Element k) a ++ k) (e1 ∙ ap (λ k. map (λ k. Element k) b ++ k) (e2 ∙ append-nil (map (λ k. Element k) c))) ∙ sym all
three_keys a b c k0 k1 k2 (x ∷ xs) e0 e1 e2 none = absurd (omega (arith, none))

pub returns-then-not-is_empty-clause-none : goal.returns-then-not-is_empty-clause-none
returns-then-not-is_empty-clause-none c begins keys is =
    let split = c.split_start-begins_cluster in
    let all = keys_after_start begins split.result.0 keys c.args.items.now split.result.1.now split.ensures.items split.ensures.start split.ensures.key is in
    let left = c.split_key-third.ensures.keys (drop 1 (drop 1 keys)) (c.split_key-second.ensures.keys (drop 1 keys) (c.split_key-first.ensures.keys keys all)) in
    let some : 0 < length c.split_key-third.result.1.now = search rules in
    more_keys keys c.split_key-third.result.1.now left some

pub returns-clause-items : goal.returns-clause-items
returns-clause-items c =
    let begun = c.split_start-begins_cluster in
    begun.ensures.items
    ∙ ap (λ (keys : List Item). (if begun.result.0 then ClusterStart 0 ∷ [] else []) ++ keys)
    (three_keys _ _ _ begun.result.1.now c.split_key-first.result.1.now c.split_key-second.result.1.now c.split_key-third.result.1.now
    c.split_key-first.ensures.items c.split_key-second.ensures.items c.split_key-third.ensures.items
    (eqb-true _ 0 (sym c.is_empty.ensures ∙ c.if-not-is_empty.false)))
