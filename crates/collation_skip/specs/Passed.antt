-- Text that a search may pass by where no key waits: no match ends in it, and none waits behind its last character.
use Rattle.std.specs.Prelude.{◌≡◌, ℕ, ◌+◌, ◌<◌, ◌≤◌, false, true, List, [], ◌∷◌, ◌++◌, length, take, drop, map, Contains}
use Rattle.std.specs.Char.{len_utf8}
use Rattle.std.specs.Str.{chars, IsUtf8}
use Rattle.utf8_cut.specs.Sequences.{SpellsCharacter}
use Rattle.nfd_points.specs.Points.{points_from, begins_with_starter}
use Rattle.collation_table.specs.Table.{TableMap}
use Rattle.collation_elements.specs.declared.keys.Key.{Key}
use Rattle.collation_elements.specs.declared.keys.Item.{Item}
use Rattle.collation_elements.specs.declared.keys.Item.TheVariants.{ClusterStart, Element}
use Rattle.collation_elements.specs.Items.{items as items_of}
use Rattle.collation_elements.specs.ItemParts.{item_keys}
use Rattle.collation_elements.specs.Units.{units}
use Rattle.collation_elements.specs.Weighing.{after_units}
use Rattle.collation_pattern.specs.Border.{border}
use Rattle.collation_pattern.specs.Compiled.{Compiled}
use Rattle.collation_letters.specs.Apart.{IsNext}
use Rattle.collation_letters.specs.Letters.{ordered_from, IsLetter}
use Rattle.collation_skip.specs.declared.passed.Passed.{Passed}

-- where a cluster starts among these items the whole pattern does not end the keys before it, so that no match ends there
abbrev pub IsQuiet : List Key → List Item → Type 0
IsQuiet pattern items =
    (before after : List Item) (start : ℕ) → items ≡ before ++ ClusterStart start ∷ after → border pattern (item_keys before) < length pattern

-- Characters of which the first stands at an offset and the last at another, before a character that follows. Their items, behind a
-- place where the last element that was variable or primary was not variable, are some in which no match ends, and then the start of
-- a cluster at the last character, at which none ends either, and the keys of this, behind which no key of the pattern has matched.
pub record IsPassed (table : TableMap) (pattern : Compiled) (start last : ℕ) (cs : List ℕ) (next : ℕ) : Type 0 where
  pub begins : begins_with_starter (points_from start cs) ≡ true
  pub is_next : IsNext table start cs next
  pub before : List Item
  pub keys : List Key
  pub items : items_of table pattern.strength pattern.variable false (units table (ordered_from start cs)) ≡ before ++ ClusterStart last ∷ map (λ key. Element key) keys
  pub flag : after_units table pattern.variable false (units table (ordered_from start cs)) ≡ false
  pub quiet : IsQuiet pattern.keys (before ++ ClusterStart last ∷ [])
  pub later : (at : ℕ) → Contains before (ClusterStart at) → start ≤ at
  pub after_start : start ≤ last
  pub some : 0 < length keys
  pub none_waits : border pattern.keys (item_keys before ++ keys) ≡ 0

-- A piece may be passed by up to a character that begins not after a limit: wherever the piece stands in a text.
pub record PassesTo (table : TableMap) (pattern : Compiled) (piece : List ℕ) (limit : ℕ) (it : Passed) : Type 0 where
  pub within : it.end + len_utf8 it.next ≤ length piece
  pub order : it.start ≤ it.end
  pub reach : it.end ≤ limit
  pub next : SpellsCharacter (take (len_utf8 it.next) (drop it.end piece)) it.next
  pub letter : IsLetter table pattern (it.next ∷ []) it.letter
  pub text : IsUtf8 (take it.end piece)
  pub passed : (at : ℕ) → IsPassed table pattern at (at + it.start) (chars (take it.end piece)) it.next
