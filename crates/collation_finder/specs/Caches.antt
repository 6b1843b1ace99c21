-- What a search has found out of characters.
use Rattle.std.specs.Prelude.{◌≡◌, ℕ, ◌+◌, ◌≤◌, false, List, [], ◌∷◌, take}
use Rattle.std.specs.Char.{len_utf8}
use Rattle.std.specs.Str.{chars}
use Rattle.collation_table.specs.Table.{TableMap}
use Rattle.collation_elements.specs.Units.{units}
use Rattle.collation_elements.specs.Weighing.{is_after_variable}
use Rattle.collation_pattern.specs.Compiled.{Compiled}
use Rattle.collation_letters.specs.Apart.{IsNext}
use Rattle.collation_letters.specs.Letters.{ordered_from}
use Rattle.collation_letters.specs.Store.{AreLetters}
use Rattle.collation_skip.specs.declared.passed.Passed.{Passed}
use Rattle.collation_skip.specs.Passed.{PassesTo}
use Rattle.collation_skip.specs.Skips.{IsSkipRight}
use Rattle.collation_walk.specs.declared.matching.Matcher.{Matcher}
use Rattle.collation_walk.specs.Walked.{HasWalkedOn}
use Rattle.collation_walk.specs.Walks.{passed_to}
use Rattle.collation_finder.specs.declared.cache.Cache.{Cache}

-- it holds of this table and this pattern
abbrev pub IsCacheRight : TableMap → Compiled → Cache → Type 0
IsCacheRight table pattern cache = AreLetters table pattern cache.letters × IsSkipRight table pattern cache.skip

-- Text at the front of a piece, which begins with this character and stands at an offset, may be passed by where no key waits.
pub record SkipsText (table : TableMap) (pattern : Compiled) (piece : List ℕ) (first reach offset : ℕ) (passed : Passed) : Type 0 where
  pub some : len_utf8 first ≤ passed.end
  pub passes : PassesTo table pattern piece reach passed
  pub begun : (others : List ℕ) × (chars (take passed.end piece) ≡ first ∷ others)
  pub apart : IsNext table offset (chars (take passed.end piece)) passed.next
  pub walked : (matcher : Matcher) → is_after_variable matcher.weigher ≡ false → matcher.walk.state ≡ 0 →
      HasWalkedOn table pattern matcher (record matcher { walk = passed_to matcher.walk (offset + passed.start) }) (units table (ordered_from offset (chars (take passed.end piece)))) []
