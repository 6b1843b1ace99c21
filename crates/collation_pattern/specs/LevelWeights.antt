-- The weights of keys at one level.
use Rattle.std.specs.Prelude.{ℕ, List, flat_map}
use Rattle.collation_elements.specs.declared.keys.Key.{Key}
use Rattle.collation_pattern.specs.declared.level_weights.Level.{Level}
use Rattle.collation_pattern.specs.declared.level_weights.Level.TheVariants.{First, Second, Third}
use Rattle.collation_pattern.specs.Levels.{first_weights, second_weights, third_weights}
use Rattle.collation_pattern.specs.SortKey.{level}

-- a key's weights at a level
abbrev pub weights_of_key : Level → Key → List ℕ
weights_of_key First = first_weights
weights_of_key Second = second_weights
weights_of_key Third = third_weights

-- the weights of some keys at a level that are not zero
abbrev pub level_weights : Level → List Key → List ℕ
level_weights at ks = level (flat_map (weights_of_key at) ks)
