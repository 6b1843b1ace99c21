-- Sort keys (UTS #10, S3).
use Rattle.std.specs.Prelude.{ℕ, nat_lt, List, ◌∷◌, ◌++◌, map, filter}
use Rattle.std.specs.Str.{chars}
use Rattle.nfd_points.specs.Points.{points}
use Rattle.collation_table.specs.declared.elements.Element.{Element}
use Rattle.collation_table.specs.Table.{TableMap}
use Rattle.collation_elements.specs.declared.settings.Variable.{Variable}
use Rattle.collation_elements.specs.declared.settings.Strength.{Strength}
use Rattle.collation_elements.specs.declared.settings.Strength.TheVariants.{One, Two, Three}
use Rattle.collation_elements.specs.Elements.{elements}

-- the weights of one level that are not zero
abbrev pub level : List ℕ → List ℕ
level weights = filter (nat_lt 0) weights

-- the weights of each level up to the strength, with 0000 between levels
abbrev pub sort_key : Strength → List Element → List ℕ
sort_key One es = level (map (λ e. e.w1) es)
sort_key Two es = level (map (λ e. e.w1) es) ++ 0 ∷ level (map (λ e. e.w2) es)
sort_key Three es = level (map (λ e. e.w1) es) ++ 0 ∷ level (map (λ e. e.w2) es) ++ 0 ∷ level (map (λ e. e.w3) es)

-- the sort key of a text of bytes
abbrev pub text_sort_key : TableMap → Strength → Variable → List ℕ → List ℕ
text_sort_key table strength variable text = sort_key strength (elements table variable (points (chars text)))
