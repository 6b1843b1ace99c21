-- What a reader of weights has left.
use Rattle.std.specs.Prelude.{◌≡◌, ℕ, zero, suc, List, [], ◌∷◌, flat_map}
use Rattle.collation_pattern.specs.declared.level_weights.Level.{Level}
use Rattle.collation_pattern.specs.declared.level_weights.Reader.{Reader}
use Rattle.collation_pattern.specs.LevelWeights.{weights_of_key}
use Rattle.collation_pattern.specs.SortKey.{level}

-- the weights that are still to come
abbrev pub weights_left : Level → Reader → List ℕ
weights_left at r = level (r.pending ∷ flat_map (weights_of_key at) r.keys.now)

-- the weight w was taken, or there was none and w is 0
abbrev pub Takes : List ℕ → List ℕ → ℕ → Type 0
Takes before after zero = (before ≡ []) × (after ≡ [])
Takes before after (suc w) = before ≡ suc w ∷ after

abbrev pub TakesWeight : Level → Reader → Reader → ℕ → Type 0
TakesWeight at old new w = Takes (weights_left at old) (weights_left at new) w
