use Rattle.std.proofs.Common.{◌+◌, ◌≤◌, ℕ, List, ◌++◌, length, take}
use Rattle.collation_elements.specs.declared.keys.Item.{Item}
use Rattle.collation_elements.specs.ItemParts.{item_starts}
use Rattle.collation_walk.specs.Walks.{KeepsWalk, WalksOver}
use Rattle.collation_walk.proofs.matching.walk_over.Given as goal

-- the items so far were walked over
abbrev pub invariant-loop-item : goal.invariant-loop-item
invariant-loop-item l = record {
  stands : (before : List Item) (ranges : List (ℕ × ℕ)) → WalksOver l.pattern.keys before (ranges ++ l.initial.found.items) l.initial.walk
      → WalksOver l.pattern.keys (before ++ take l.item-index l.items) (ranges ++ l.found.items) l.walk;
  few : length l.found.items ≤ length l.initial.found.items + length (item_starts (take l.item-index l.items));
  keeps : KeepsWalk l.pattern l.initial.walk l.walk;
}
