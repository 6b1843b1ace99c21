use Rattle.std.proofs.Common.{◌∙◌, ◌+◌, ◌++◌, ◌<◌, List, length, drop, ap, arith}
use Rattle.collation_elements.specs.declared.keys.Key.{Key}
use Rattle.collation_elements.specs.ItemParts.{item_keys}
use Rattle.collation_pattern.proofs.CompileLemmas.{item_keys-next}
use Rattle.collation_pattern.proofs.compile.keys_among.Goals as goal

pub loop-item-preserved : goal.loop-item-preserved
loop-item-preserved c =
    let i = c.loop-item.item-index in
    let below : i < length c.args.items.now = omega arith in
    ap (λ (ks : List Key). ks ++ item_keys (drop (i + 1) c.args.items.now)) c.in_ok-push_key.ensures
    ∙ item_keys-next c.args.items.now i _ c.loop-item.keys.items below ∙ c.loop-item.invariant
