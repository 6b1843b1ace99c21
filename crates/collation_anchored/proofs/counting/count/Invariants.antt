-- those of the items so far
use Rattle.std.proofs.Common.{◌≡◌, ◌+◌, ◌≤◌, length, take}
use Rattle.collation_elements.specs.ItemParts.{item_keys}
use Rattle.collation_anchored.proofs.counting.count.Given as goal

abbrev pub invariant-loop-item : goal.invariant-loop-item
invariant-loop-item l = record {
  within : l.keys ≤ l.most;
  counted : l.keys ≡ l.initial.keys + length (item_keys (take l.item-index l.items));
}
