-- How the role of a letter follows from the items of its points.
use Rattle.std.specs.Prelude.{◌≡◌, ℕ, Bool, true, false, List, [], ◌∷◌, ◌++◌, length, Option}
use Rattle.std.specs.Option.{ForSome}
use Rattle.nfd_points.specs.declared.points.Point.{Point}
use Rattle.nfd_points.specs.Points.{begins_with_starter}
use Rattle.collation_elements.specs.declared.character.CharacterItems.{CharacterItems}
use Rattle.collation_elements.specs.CharacterItems.{character_keys}
use Rattle.collation_letters.specs.declared.letter.Role.{Role}
use Rattle.collation_letters.specs.Letters.{begins_cluster, is_mark, flag_after, counted}

-- the class of the last of some points
abbrev pub IsLastClass : List Point → ℕ → Type 0
IsLastClass ps class = (before : List Point) (last : Point) → ps ≡ before ++ last ∷ [] → class ≡ last.ccc

-- no cluster begins, there is no key, and the flag after them is this
abbrev pub IsSilent : Bool → CharacterItems → Type 0
IsSilent flag it = (it.begins_cluster ≡ false) × ((it.after_variable ≡ flag) × (character_keys it ≡ []))

-- these items, where the flag before them is `after`, are what the role says of those where it is not
abbrev pub IsAs : CharacterItems → Role → Bool → CharacterItems → Type 0
IsAs plain role after it =
    (it.begins_cluster ≡ begins_cluster role) × ((it.after_variable ≡ flag_after role after) × (character_keys it ≡ counted role after (character_keys plain)))

-- the items where the last element that was variable or primary was not variable and, if that may be, where it was
abbrev pub AreItemsOfRole : CharacterItems → Option CharacterItems → Role → Type 0
AreItemsOfRole plain after role = IsAs plain role false plain × ForSome after (IsAs plain role true)

-- points of these items have the role
abbrev pub HasRole : List Point → CharacterItems → Option CharacterItems → Role → Type 0
HasRole ps plain after role =
    (is_mark role ≡ false → begins_with_starter ps ≡ true) × ((is_mark role ≡ true → length ps ≡ 1) × AreItemsOfRole plain after role)
