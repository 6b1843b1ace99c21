-- Which keys a list may have.
use Rattle.std.specs.Prelude.{◌≡◌, ◌≤◌, ℕ, ◌+◌, ◌%◌, List, get_or, slice_get, Some}
use Rattle.collation_elements.specs.declared.keys.Key.{Key}
use Rattle.collation_elements.specs.declared.keys.Key.TheVariants.{Primary, Pair, Secondary, Tertiary}
use Rattle.collation_pattern.specs.declared.key_set.TheConstants.{PLACES}

-- the weight that tells most keys apart: of a pair it is that of the follower
abbrev pub telling_weight : Key → ℕ
telling_weight (Primary first _ _) = first
telling_weight (Pair _ follower _ _) = follower
telling_weight (Secondary second _) = second
telling_weight (Tertiary third) = third

-- the place of a key in a set, which other keys share
abbrev pub place_in_set : Key → ℕ
place_in_set key = telling_weight key % PLACES

-- each of these keys is at its place in the set, and none stands before the number there, which counts from 1
abbrev pub HasPlaces : List Key → List ℕ → Type 0
HasPlaces keys set = (place : ℕ) (key : Key) → slice_get keys place ≡ Some key →
    let number = get_or set (place_in_set key) 0 in (1 ≤ number) × (number ≤ place + 1)
