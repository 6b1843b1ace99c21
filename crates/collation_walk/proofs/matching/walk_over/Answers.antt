use Rattle.std.proofs.Common.{◌∙◌, ℕ, ◌+◌, List, [], ◌∷◌, ◌++◌, length, take, get_or, arith, sym, ap, subst, append_assoc, length-append}
use Rattle.std.specs.Option.{option_to_list}
use Rattle.std.proofs.lemmas.List.{take_more, take_all}
use Rattle.collation_elements.specs.declared.keys.Item.{Item}
use Rattle.collation_elements.specs.declared.keys.Item.TheVariants.{ClusterStart}
use Rattle.collation_elements.specs.ItemParts.{item_starts}
use Rattle.collation_walk.specs.Walks.{WalksOver}
use Rattle.collation_walk.proofs.WalkSteps.{keeps-on}
use Rattle.collation_walk.proofs.ItemLemmas.{item_starts-append, starts_so_far, few_at_start}
use Rattle.collation_walk.proofs.matching.walk_over.Goals as goal

pub keep-requires : goal.keep-requires
keep-requires c =
    let i = c.loop-item.item-index in
    let xs = c.args.items.now in
    let x = get_or xs i (ClusterStart 0) in
    omega (arith, few_at_start x c.take-range.result c.take-range.ensures.at_start, c.loop-item.invariant.few, c.requires.room, starts_so_far xs i (ClusterStart 0) c.loop-item-test.true)

pub loop-item-preserved : goal.loop-item-preserved
loop-item-preserved c =
    let i = c.loop-item.item-index in
    let xs = c.args.items.now in
    let x = get_or xs i (ClusterStart 0) in
    let more = take_more xs i (ClusterStart 0) c.loop-item-test.true in
    let one = option_to_list c.take-range.result in
    let kept = c.keep.ensures in
    record {
      stands = λ before ranges h.
          let old = c.loop-item.invariant.stands before ranges h in
          let new = c.take-range.ensures.walks (before ++ take i xs) (ranges ++ c.loop-item.found.items) old in
          let items = append_assoc before (take i xs) (x ∷ []) ∙ ap (λ t. before ++ t) (sym more) in
          let found = append_assoc ranges c.loop-item.found.items one ∙ ap (λ t. ranges ++ t) (sym kept) in
          subst (λ (t : List (ℕ × ℕ)). WalksOver c.args.pattern.now.keys (before ++ take (i + 1) xs) t c.take-range.new.self) found
          (subst (λ (t : List Item). WalksOver c.args.pattern.now.keys t ((ranges ++ c.loop-item.found.items) ++ one) c.take-range.new.self) items new);
      few =
          let sum = ap length kept ∙ length-append c.loop-item.found.items one in
          let starts = ap (λ t. length (item_starts t)) more ∙ ap length (item_starts-append (take i xs) (x ∷ [])) ∙ length-append (item_starts (take i xs)) (item_starts (x ∷ [])) in
          omega (arith, few_at_start x c.take-range.result c.take-range.ensures.at_start, c.loop-item.invariant.few, sum, starts);
      keeps = keeps-on c.args.pattern.now _ _ _ c.loop-item.invariant.keeps c.take-range.ensures.keeps;
    }

pub returns-clause-stands : goal.returns-clause-stands
returns-clause-stands c = λ before ranges h.
    let all = take_all c.loop-item.item-index c.args.items.now (omega (arith, c.loop-item-test.false)) in
    subst (λ (t : List Item). WalksOver c.args.pattern.now.keys (before ++ t) (ranges ++ c.loop-item.found.items) c.loop-item.walk) all
    (c.loop-item.invariant.stands before ranges h)
