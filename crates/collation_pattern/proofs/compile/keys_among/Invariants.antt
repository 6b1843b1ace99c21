use Rattle.std.proofs.Common.{◌≡◌, ◌++◌, drop}
use Rattle.collation_elements.specs.ItemParts.{item_keys}
use Rattle.collation_pattern.proofs.compile.keys_among.Given as goal

-- the keys among the items so far, with those of the rest, are all
abbrev pub invariant-loop-item : goal.invariant-loop-item
invariant-loop-item l = l.keys.items ++ item_keys (drop l.item-index l.items) ≡ item_keys l.items
