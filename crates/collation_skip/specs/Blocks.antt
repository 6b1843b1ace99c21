-- Text of ASCII that a search passes in blocks of bytes: the classes of bytes, and what they say of their characters.
use Rattle.std.specs.Prelude.{◌≡◌, ◌≢◌, ℕ, suc, ◌-◌, ◌<◌, ◌≤◌, min, Bool, false, List, [], ◌∷◌, ◌++◌, length, slice_get, Some}
use Rattle.std.specs.Option.{ForSome}
use Rattle.nfd_points.specs.Points.{points_from}
use Rattle.byte_blocks.specs.Sets.{in_set}
use Rattle.collation_table.specs.Table.{TableMap}
use Rattle.collation_elements.specs.declared.keys.Key.{Key}
use Rattle.collation_elements.specs.declared.keys.Item.{Item}
use Rattle.collation_elements.specs.declared.keys.Item.TheVariants.{ClusterStart}
use Rattle.collation_elements.specs.Items.{items as items_of}
use Rattle.collation_elements.specs.ItemParts.{item_keys}
use Rattle.collation_elements.specs.Units.{units}
use Rattle.collation_pattern.specs.Border.{border}
use Rattle.collation_pattern.specs.Compiled.{Compiled}
use Rattle.collation_letters.specs.declared.letter.Letter.{Letter}
use Rattle.collation_letters.specs.declared.letter.Role.TheVariants.{Plain, Steps}
use Rattle.collation_letters.specs.declared.symbols.TheConstants.{NO_SYMBOL}
use Rattle.collation_letters.specs.Letters.{ordered_from, AreApart, AreClosed, IsLetter, IsPossible, is_mark}
use Rattle.collation_letters.specs.Symbols.{IsSymbol}
use Rattle.collation_skip.specs.declared.ascii.AsciiBlocks.{AsciiBlocks}
use Rattle.collation_skip.specs.declared.classes.Classes.{Classes}
use Rattle.collation_skip.specs.declared.kinds.Kind.{Kind}

-- ---- what keys do to the number of the pattern's keys that have matched

-- where at most `from` of them have matched before these keys, at most `to` have matched after them
abbrev pub Carry : List Key → ℕ → ℕ → List Key → Type 0
Carry pattern from to keys = (before : List Key) → border pattern before ≤ from → border pattern (before ++ keys) ≤ to

-- the items of a character that stands at an offset
abbrev pub items_at : TableMap → Compiled → Bool → ℕ → ℕ → List Item
items_at table pattern after start c = items_of table pattern.strength pattern.variable after (units table (ordered_from start (c ∷ [])))

-- the same of the keys of a character, wherever it stands
abbrev pub Carries : TableMap → Compiled → ℕ → ℕ → ℕ → Type 0
Carries table pattern c from to =
    (after : Bool) → IsPossible pattern.variable after → (start : ℕ) → Carry pattern.keys from to (item_keys (items_at table pattern after start c))

-- a cluster starts before the first of these items, if one starts there, at this offset
abbrev pub StartsInFront : ℕ → List Item → Type 0
StartsInFront start items = (before more : List Item) (at : ℕ) → items ≡ before ++ ClusterStart at ∷ more → (before ≡ []) × (at ≡ start)

-- no cluster starts inside the character
abbrev pub IsWhole : TableMap → Compiled → ℕ → Type 0
IsWhole table pattern c = (after : Bool) → IsPossible pattern.variable after → (start : ℕ) → StartsInFront start (items_at table pattern after start c)

-- ---- classes

-- how many of the pattern's keys may have matched after a character of a text that is passed: one more than the place, or fewer
-- where these are all
abbrev pub most : List Key → ℕ → ℕ
most pattern place = min (suc place) (length pattern - 1)

-- the letter is not left to the steps, begins with a starter, and has one symbol at most
pub record IsLone (l : Letter) : Type 0 where
  pub known : l.role ≢ Steps
  pub starter : is_mark l.role ≡ false
  pub first : l.symbols.first ≡ NO_SYMBOL
  pub second : l.symbols.second ≡ NO_SYMBOL

-- no key with this symbol, if it is one, stands at the place of the pattern
abbrev pub IsNotAt : List Key → ℕ → ℕ → Type 0
IsNotAt pattern symbol place = symbol < NO_SYMBOL → (key : Key) → IsSymbol pattern key symbol → slice_get pattern place ≢ Some key

-- What is known of a character where some things hold of it: that it may be passed; that its last key is not the pattern's at the
-- place; that it has a key, and its last one is not the pattern's behind the place; that no unit reaches out of it, or into it.
pub record IsClassifiedBy (table : TableMap) (pattern : Compiled) (place c : ℕ) (Passable Other NotLater Closed Apart : Type 0) : Type 0 where
  pub whole : Passable → IsWhole table pattern c
  pub any : Passable → Carries table pattern c place (most pattern.keys place)
  pub other : Passable → Other → Carries table pattern c place place
  pub behind : Passable → NotLater → Carries table pattern c (most pattern.keys place) (most pattern.keys place)
  pub back : Passable → Other → NotLater → Carries table pattern c (most pattern.keys place) place
  pub closed : Closed → AreClosed table (ordered_from 0 (c ∷ []))
  pub apart : Apart → AreApart table (points_from 0 (c ∷ []))

-- the classes say what is so of a character of ASCII, by the sets where its byte is not
abbrev pub IsClassRight : TableMap → Compiled → Classes → ℕ → Type 0
IsClassRight table pattern classes c =
    IsClassifiedBy table pattern classes.place c (in_set classes.sets.halt c ≡ 0) (in_set classes.sets.key c ≡ 0) (in_set classes.sets.later c ≡ 0) (in_set classes.sets.joins c ≡ 0) (in_set classes.sets.inner c ≡ 0)

-- and so does a kind, by what it is not
abbrev pub IsOfKind : TableMap → Compiled → ℕ → ℕ → Kind → Type 0
IsOfKind table pattern place c kind =
    IsClassifiedBy table pattern place c (kind.halt ≡ false) (kind.key ≡ false) (kind.later ≡ false) (kind.joins ≡ false) (kind.inner ≡ false)

-- A letter is plain and has a last key, which is none of the pattern's first ones up to the one behind so many: where at most so many have
-- matched before it, none has matched behind it.
abbrev pub LeavesNone : ℕ → Letter → Type 0
LeavesNone matched l = (l.role ≡ Plain) × (l.symbols.third < NO_SYMBOL) × ((place : ℕ) → l.symbols.third ≡ suc place → matched < place)

-- a character has such a letter
abbrev pub IsCleanCharacter : TableMap → Compiled → ℕ → ℕ → Type 0
IsCleanCharacter table pattern matched c = (letter : Letter) × IsLetter table pattern (c ∷ []) letter × LeavesNone matched letter

-- The classes of all characters of ASCII are right, for a place of the pattern. That a character is clean is said to be merely so, so that
-- this is a proposition.
pub record AreClassesRight (table : TableMap) (pattern : Compiled) (classes : Classes) : Type 0 where
  pub place : classes.place < length pattern.keys
  pub each : (c : ℕ) → c < 128 → IsClassRight table pattern classes c
  pub clean : (c : ℕ) → c < 128 → in_set classes.clean c ≢ 0 → ∥ IsCleanCharacter table pattern (most pattern.keys classes.place) c ∥₁

-- so are those that were chosen, if any were
abbrev pub AreBlocksRight : TableMap → Compiled → AsciiBlocks → Type 0
AreBlocksRight table pattern blocks = ForSome blocks.classes (AreClassesRight table pattern)
