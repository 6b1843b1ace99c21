use Rattle.std.proofs.Common.{◌≡◌, ◌≤◌, List, [], ◌++◌, length, take}
use Rattle.collation_elements.specs.declared.keys.Item.{Item}
use Rattle.collation_elements.specs.ItemParts.{item_keys}
use Rattle.collation_anchored.specs.Compared.{completed_among}
use Rattle.collation_anchored.proofs.keys.Progress.take.Given as goal

-- the keys of the items so far are the next of the pattern's
abbrev pub invariant-loop-item : goal.invariant-loop-item
invariant-loop-item l = record {
  within : l.fn.self.matched ≤ length l.keys → l.self.matched ≤ length l.keys;
  came : l.fn.self.matched ≤ length l.keys → take l.self.matched l.keys ≡ take l.fn.self.matched l.keys ++ item_keys (take l.item-index l.items);
  completed : (earlier : List Item) → l.fn.self.matched ≤ length l.keys → item_keys earlier ≡ take l.fn.self.matched l.keys → l.fn.self.completed ≡ completed_among l.keys [] earlier
      → l.self.completed ≡ completed_among l.keys [] (earlier ++ take l.item-index l.items);
}
