-- Tables of borders.
use Rattle.std.specs.Prelude.{◌≡◌, ℕ, ◌+◌, ◌<◌, List, [], ◌∷◌, ◌++◌, length, take, drop, slice_index}
use Rattle.collation_elements.specs.declared.keys.Key.{Key}
use Rattle.collation_pattern.specs.Border.{border}

-- Each entry i is the border of the first i + 1 of these keys less the first one, and so the longest prefix of the keys
-- that is shorter than these and ends them.
abbrev pub AreBorders : List Key → List ℕ → Type 0
AreBorders keys borders =
    (i : ℕ) → i < length borders → slice_index borders i ≡ border keys (drop 1 (take (i + 1) keys))

-- this key stands after the first n of these keys
abbrev pub IsNextKey : List Key → ℕ → Key → Type 0
IsNextKey keys n key = take (n + 1) keys ≡ take n keys ++ key ∷ []
