-- What a state of the automaton says of the bytes behind which it stands, and what a right move is.
use Rattle.std.specs.Prelude.{◌≡◌, ◌≢◌, ℕ, ◌+◌, ◌<◌, ◌≤◌, false, true, List, [], ◌∷◌, ◌++◌, length, Contains, Some, IfSome}
use Rattle.std.specs.Char.{len_utf8}
use Rattle.std.specs.Str.{chars, IsUtf8}
use Rattle.nfd_points.specs.Points.{byte_len, points_from, begins_with_starter}
use Rattle.collation_table.specs.Table.{TableMap}
use Rattle.collation_elements.specs.declared.keys.Item.{Item}
use Rattle.collation_elements.specs.declared.keys.Item.TheVariants.{ClusterStart}
use Rattle.collation_elements.specs.Items.{items as items_of}
use Rattle.collation_elements.specs.ItemParts.{item_keys}
use Rattle.collation_elements.specs.Units.{units}
use Rattle.collation_pattern.specs.Border.{border}
use Rattle.collation_pattern.specs.Compiled.{Compiled}
use Rattle.collation_letters.specs.Apart.{IsNext}
use Rattle.collation_letters.specs.Clusters.{IsClusterAt}
use Rattle.collation_letters.specs.declared.letter.Letter.{Letter}
use Rattle.collation_letters.specs.Letters.{ordered_from, IsLetterAt}
use Rattle.collation_skip.specs.declared.state.State.{State}
use Rattle.collation_skip.specs.BegunBytes.{begun_bytes}
use Rattle.collation_skip.specs.Passed.{IsPassed, IsQuiet}

-- the items of characters by themselves, of which the first stands at an offset
abbrev pub items_from : TableMap → Compiled → ℕ → List ℕ → List Item
items_from table pattern at cs = items_of table pattern.strength pattern.variable false (units table (ordered_from at cs))

-- The characters up to the last one, which is whole, may be passed by: it is behind a character of so many bytes.
pub record IsBehind (table : TableMap) (pattern : Compiled) (at len : ℕ) (before : List ℕ) (last : ℕ) : Type 0 where
  pub earlier : List ℕ
  pub character : ℕ
  pub are : before ≡ earlier ++ character ∷ []
  pub len_is : len_utf8 character ≡ len
  pub passed : IsPassed table pattern at (at + byte_len earlier) before last

-- The letter of characters as a state holds it, where so many of the pattern's first keys end the keys before them: it may be spent, that is,
-- without the symbols of keys behind which none waits there.
abbrev pub IsHeld : TableMap → Compiled → ℕ → List ℕ → Letter → Type 0
IsHeld table pattern depth cs l = IsLetterAt (Some depth) table pattern (ordered_from 0 cs) l

-- what a state keeps of the marks of its letter's characters is right
abbrev pub AreMarksRight : TableMap → Compiled → List ℕ → State → Type 0
AreMarksRight table pattern cs state =
    IfSome state.marks (λ m. IsClusterAt (Some state.depth) table pattern (ordered_from 0 cs) (record { letter = state.letter; base = m.base; before = m.before; last = m.last }))

-- Behind these bytes, the first of which stands at an offset: they are characters, the last of which are those of the state's letter,
-- and the bytes of one that is not whole. No unit reaches from the characters before the letter to it, no match ends among them, and so
-- many of the pattern's first keys end their keys.
pub record IsReached (table : TableMap) (pattern : Compiled) (state : State) (at : ℕ) (bytes : List ℕ) : Type 0 where
  pub text : List ℕ
  pub before : List ℕ
  pub first : ℕ
  pub others : List ℕ
  pub all : bytes ≡ text ++ begun_bytes state.begun
  pub is_text : IsUtf8 text
  pub characters : chars text ≡ before ++ first ∷ others
  pub begins : begins_with_starter (points_from at before) ≡ true
  pub is_next : IsNext table at before first
  pub letter : IsHeld table pattern state.depth (first ∷ others) state.letter
  pub marks : AreMarksRight table pattern (first ∷ others) state
  pub depth : border pattern.keys (item_keys (items_from table pattern at before)) ≡ state.depth
  pub below : state.depth < length pattern.keys
  pub quiet : IsQuiet pattern.keys (items_from table pattern at before)
  pub later : (start : ℕ) → Contains (items_from table pattern at before) (ClusterStart start) → at ≤ start
  -- of a letter that is one character the length is known, and which it is where it may be wanted
  pub one : 0 < state.len → (others ≡ []) × (len_utf8 first ≡ state.len)
  pub character : 0 < state.len → state.character ≢ 0 → first ≡ state.character
  pub behind : 0 < state.before → (0 < state.len) × ((begun_bytes state.begun ≡ []) × IsBehind table pattern at state.before before first)

abbrev pub HasReached : TableMap → Compiled → State → ℕ → List ℕ → Type 0
HasReached table pattern state at bytes = ∥ IsReached table pattern state at bytes ∥₁

-- the byte leads from one state to the other, wherever the text begins and whatever it is so far
abbrev pub IsMove : TableMap → Compiled → State → ℕ → State → Type 0
IsMove table pattern from byte to =
    (at : ℕ) (bytes : List ℕ) → HasReached table pattern from at bytes → HasReached table pattern to at (bytes ++ byte ∷ [])
