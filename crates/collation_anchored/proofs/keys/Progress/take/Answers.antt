use Rattle.std.proofs.Common.{◌≡◌, ◌∙◌, suc, false, List, [], ◌∷◌, ◌++◌, take, drop, get_or, sym, ap, append_assoc}
use Rattle.std.proofs.Math.Seq.{split_at}
use Rattle.std.proofs.lemmas.Grind.{flat_map-append}
use Rattle.collation_elements.specs.declared.keys.Key.{Key}
use Rattle.collation_elements.specs.declared.keys.Item.{Item}
use Rattle.collation_elements.specs.declared.keys.Item.TheVariants.{ClusterStart}
use Rattle.collation_elements.specs.ItemParts.{item_keys, keys_in}
use Rattle.collation_anchored.specs.Anchored.{is_begun}
use Rattle.collation_anchored.specs.Compared.{completed_among}
use Rattle.collation_anchored.proofs.BegunKeys.{never_begun_by}
use Rattle.collation_anchored.proofs.CompletedKeys.{completed-apart}
use Rattle.collation_anchored.proofs.keys.Progress.take.Goals as goal

pub returns-then-not-alike-clause-apart : goal.returns-then-not-alike-clause-apart
returns-then-not-alike-clause-apart c = λ within apart.
    let items = c.args.items.now in
    let i = c.loop-item.item-index in
    never_begun_by c.args.keys.now c.args.self.now.matched c.loop-item.self.matched items i (get_or items i (ClusterStart 0)) (c.loop-item.invariant.came within)
    (split_at items i (ClusterStart 0) c.loop-item-test.true) (c.take_item-alike.ensures.apart (c.loop-item.invariant.within within) c.if-not-alike.true)

pub returns-then-not-alike-clause-completed : goal.returns-then-not-alike-clause-completed
returns-then-not-alike-clause-completed c = λ earlier within came found.
    let keys = c.args.keys.now in
    let items = c.args.items.now in
    let i = c.loop-item.item-index in
    let item = get_or items i (ClusterStart 0) in
    let before = take i items in
    let rest = drop (suc i) items in
    let matched = c.loop-item.self.matched in
    let within_here = c.loop-item.invariant.within within in
    let came_here : item_keys (earlier ++ before) ≡ take matched keys =
    flat_map-append keys_in earlier before ∙ ap (λ (ks : List Key). ks ++ item_keys before) came ∙ sym (c.loop-item.invariant.came within) in
    let found_here = c.loop-item.invariant.completed earlier within came found in
    let next = c.take_item-alike.ensures.completed (earlier ++ before) within_here came_here found_here in
    let apart : is_begun keys (item_keys ((earlier ++ before) ++ item ∷ [])) ≡ false =
    ap (is_begun keys) (flat_map-append keys_in (earlier ++ before) (item ∷ []) ∙ ap (λ (ks : List Key). ks ++ item_keys (item ∷ [])) came_here)
    ∙ c.take_item-alike.ensures.apart within_here c.if-not-alike.true in
    let all : ((earlier ++ before) ++ item ∷ []) ++ rest ≡ earlier ++ items =
    append_assoc (earlier ++ before) (item ∷ []) rest ∙ append_assoc earlier before (item ∷ rest) ∙ ap (λ (its : List Item). earlier ++ its) (sym (split_at items i (ClusterStart 0) c.loop-item-test.true)) in
    next ∙ sym (completed-apart keys ((earlier ++ before) ++ item ∷ []) rest apart) ∙ ap (completed_among keys []) all
