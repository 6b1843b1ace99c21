-- The weights of a list of keys, level by level.
use Rattle.std.specs.Prelude.{ℕ, List, [], ◌∷◌, ◌++◌, flat_map}
use Rattle.std.specs.Str.{chars}
use Rattle.nfd_points.specs.Points.{points}
use Rattle.collation_table.specs.Table.{TableMap}
use Rattle.collation_elements.specs.declared.settings.Variable.{Variable}
use Rattle.collation_elements.specs.declared.settings.Strength.{Strength}
use Rattle.collation_elements.specs.declared.settings.Strength.TheVariants.{One, Two, Three}
use Rattle.collation_elements.specs.declared.keys.Key.{Key}
use Rattle.collation_elements.specs.declared.keys.Key.TheVariants.{Primary, Pair, Secondary, Tertiary}
use Rattle.collation_elements.specs.Keys.{keys}
use Rattle.collation_pattern.specs.SortKey.{level}

-- the weights of a key at a level; a pair has two at the first
abbrev pub first_weights : Key → List ℕ
first_weights (Primary a b c) = a ∷ []
first_weights (Pair lead follower b c) = lead ∷ follower ∷ []
first_weights (Secondary b c) = []
first_weights (Tertiary c) = []

abbrev pub second_weights : Key → List ℕ
second_weights (Primary a b c) = b ∷ []
second_weights (Pair lead follower b c) = b ∷ []
second_weights (Secondary b c) = b ∷ []
second_weights (Tertiary c) = []

abbrev pub third_weights : Key → List ℕ
third_weights (Primary a b c) = c ∷ []
third_weights (Pair lead follower b c) = c ∷ []
third_weights (Secondary b c) = c ∷ []
third_weights (Tertiary c) = c ∷ []

-- the weights of each level up to the strength that are not zero, with 0000 between levels
abbrev pub levels : Strength → List Key → List ℕ
levels One ks = level (flat_map first_weights ks)
levels Two ks = level (flat_map first_weights ks) ++ 0 ∷ level (flat_map second_weights ks)
levels Three ks = level (flat_map first_weights ks) ++ 0 ∷ level (flat_map second_weights ks) ++ 0 ∷ level (flat_map third_weights ks)

-- the keys of a text of bytes
abbrev pub text_keys : TableMap → Strength → Variable → List ℕ → List Key
text_keys table strength variable text = keys table strength variable (points (chars text))
