use Rattle.std.proofs.Common.{◌∙◌, suc, List, [], ◌∷◌, length, take, drop, get_or, ap, arith}
use Rattle.std.proofs.Math.Seq.{split_at}
use Rattle.std.proofs.lemmas.List.{take_more}
use Rattle.collation_elements.specs.declared.keys.Item.{Item}
use Rattle.collation_elements.specs.declared.keys.Item.TheVariants.{ClusterStart}
use Rattle.collation_elements.specs.ItemParts.{item_keys}
use Rattle.collation_anchored.proofs.CountedKeys.{key_count-append}
use Rattle.collation_anchored.proofs.counting.count.Goals as goal

pub loop-item-preserved : goal.loop-item-preserved
loop-item-preserved c =
    let items = c.args.items.now in
    let i = c.loop-item.item-index in
    let item = get_or items i (ClusterStart 0) in
    let more = ap (λ (its : List Item). length (item_keys its)) (take_more items i (ClusterStart 0) c.loop-item-test.true) ∙ key_count-append (take i items) (item ∷ []) in
    let before = c.loop-item.invariant.counted in
    record {
      within = c.is_one_more.ensures.within;
      counted = let next = c.is_one_more.ensures.all c.if-is_one_more.false in omega (arith, more, before, next);
    }

pub returns-then-is_one_more-clause-more : goal.returns-then-is_one_more-clause-more
returns-then-is_one_more-clause-more c = λ is.
    let items = c.args.items.now in
    let i = c.loop-item.item-index in
    let item = get_or items i (ClusterStart 0) in
    let all = ap (λ (its : List Item). length (item_keys its)) (split_at items i (ClusterStart 0) c.loop-item-test.true) ∙ key_count-append (take i items) (item ∷ drop (suc i) items) in
    let here = key_count-append (item ∷ []) (drop (suc i) items) in
    let before = c.loop-item.invariant.counted in
    let next = c.is_one_more.ensures.more c.if-is_one_more.true in
    omega (arith, all, here, before, next)
