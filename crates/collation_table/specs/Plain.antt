-- What a contract sees of the index of a plain table, an ordered map from each mapped string to a place.
use Rattle.std.specs.Prelude.{ℕ, List, Option, Vec}
use Rattle.std.specs.Cmp.Lexicographic.{slice_cmp}
use Rattle.std.specs.Ordering.{nat_cmp, is_eq}
use Rattle.std.specs.Map.{lookup}
use Rattle.std.specs.BTreeMap.{BTreeMap}
use Rattle.collation_table.specs.declared.pages.Place.{Place}

-- the place of the string
abbrev pub place_in : {A : Type 0} → BTreeMap (Vec ℕ A) Place → List ℕ → Option Place
place_in places string = lookup (λ key. is_eq (slice_cmp nat_cmp string key.items)) places.entries
