-- Borders: how much of a pattern's keys ends a list of keys.
use Rattle.std.specs.Prelude.{◌≡◌, ◌≤◌, ◌++◌, Some, slice_get, ℕ, zero, suc, ◌-◌, Bool, true, false, ◌&&◌, ◌==◌, List, [], ◌∷◌, take, drop, length, min, if◌then◌else◌}
use Rattle.collation_elements.specs.declared.keys.Key.{Key}
use Rattle.collation_elements.specs.declared.keys.Key.TheVariants.{Primary, Pair, Secondary, Tertiary}

abbrev pub same_key : Key → Key → Bool
same_key (Primary a b c) (Primary x y z) = a == x && b == y && c == z
same_key (Pair a b c d) (Pair w x y z) = a == w && b == x && c == y && d == z
same_key (Secondary a b) (Secondary x y) = a == x && b == y
same_key (Tertiary a) (Tertiary x) = a == x
same_key k l = false

abbrev pub same_keys : List Key → List Key → Bool
same_keys [] [] = true
same_keys (k ∷ ks) (l ∷ ls) = let rest = same_keys ks ls in if same_key k l then rest else false
same_keys ks ls = false

-- the last j of these keys are the first j of the pattern's
abbrev pub ends_with_prefix : List Key → List Key → ℕ → Bool
ends_with_prefix pattern ks j = same_keys (drop (length ks - j) ks) (take j pattern)

abbrev pub border_up_to : List Key → List Key → ℕ → ℕ
border_up_to pattern ks zero = 0
border_up_to pattern ks (suc j) =
    let shorter = border_up_to pattern ks j in if ends_with_prefix pattern ks (suc j) then suc j else shorter

-- the length of the longest prefix of the pattern's keys that ends these keys
abbrev pub border : List Key → List Key → ℕ
border pattern ks = border_up_to pattern ks (min (length pattern) (length ks))

-- where a prefix of the pattern ends the keys, its last key is the last of them
abbrev pub PrefixesEndWithTheLastKey : Type 0
PrefixesEndWithTheLastKey =
    (pattern ks : List Key) (key : Key) (n : ℕ) → border pattern (ks ++ key ∷ []) ≡ suc n → slice_get pattern n ≡ Some key

-- with one key more the border grows by one at most
abbrev pub BordersGrowByOne : Type 0
BordersGrowByOne = (pattern ks : List Key) (key : Key) → border pattern (ks ++ key ∷ []) ≤ suc (border pattern ks)

-- what the border is with one key more follows from the border before it
abbrev pub BordersGoOn : Type 0
BordersGoOn =
    (pattern ks ls : List Key) (key : Key) → border pattern ks ≡ border pattern ls → border pattern (ks ++ key ∷ []) ≡ border pattern (ls ++ key ∷ [])
